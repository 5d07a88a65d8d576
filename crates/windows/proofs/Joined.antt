-- What workers answer together, one worker more.
use Rattle.windows.proofs.Words.{◌≡◌, ◌⊎◌, inl, inr, sym, ap, ◌∙◌, subst, List, [], ◌∷◌, ◌++◌, length, length-append, arith, Option, Some, option_to_list, Result, Ok, Err, IfOk, IfErr, IsErrOf, Vec, All, All-pop, All-push, Berth, IfOk-at_ok, All-same, Mind, RunError, Limit, Memory, map_push, AreThere, IsFirstRefusal, IsRefusal, IsWorkIn, IsAnswerTo, IsOneTooLong, AreAnswers, Start, Work}
use Rattle.{windows.proofs.Refused.{not_err, one_refused}, windows.specs.declared.shared.Shared.{Shared}}

pub popped : {X : Type 0} (xs ys : List X) (o : Option X) (x : X) → xs ≡ ys ++ option_to_list o → o ≡ Some x → xs ≡ ys ++ x ∷ []
popped xs ys o x e is = e ∙ ap (λ r. ys ++ option_to_list r) is

pub answer_at : {M G : Type 0} (mind : M → Mind) (w w' : Shared M G) (start start' : Start M) (r : Result (Work M) RunError) → w ≡ w' → start ≡ start' → IsAnswerTo mind w start r → IsAnswerTo mind w' start' r
answer_at mind w w' start start' r e is answer = subst (λ v. IsAnswerTo mind v start' r) e (subst (λ s. IsAnswerTo mind w s r) is answer)

not_limit : {A : Type 0} (e : RunError) → e ≡ Memory → ◌≡◌ {A = Result A RunError} (Err e) (Err Limit) → ⊥
not_limit e memory limit = cc

module _ {M G : Type 0} (mind : M → Mind) (w : Shared M G) (starts starts' : List (Start M)) (start : Start M) (first : starts ≡ starts' ++ start ∷ [])
    (rest : Result (Vec (Work M)) RunError) (mine : Result (Work M) RunError) (are : AreAnswers mind w starts' rest) (answer : IsAnswerTo mind w start mine) where
  module _ (works before : Vec (Work M)) (work : Work M) (rest_is : rest ≡ Ok before) (mine_is : mine ≡ Ok work) (more : works.items ≡ before.items ++ work ∷ []) where
    all_worked : AreAnswers mind w starts (Ok works)
    all_worked = record {
      count = omega (arith, IfOk-at_ok _ rest_is are.count, works.ok.0, before.ok.0, ap length more, ap length first, length-append before.items (work ∷ []), length-append starts' (start ∷ []));
      own = map_push (λ (x : Work M). x.hand.own) before.items works.items work more
          ∙ (λ i. IfOk-at_ok _ rest_is are.own i ++ IfOk-at_ok _ mine_is answer.own i ∷ []) ∙ sym (map_push (λ (b : Start M). b.hand.own) starts' starts start first);
      works = All-same (IsWorkIn mind w) works.items (before.items ++ work ∷ []) more (All-push (IsWorkIn mind w) before.items work (IfOk-at_ok _ rest_is are.works) (IfOk-at_ok _ mine_is answer.work));
      errors = tt;
      limit = λ is. absurd (not_err works Limit is);
    }

  known_by : (known : List (Berth M)) → All (λ (b : Start M). b.hand.known ≡ known) starts → All (λ (b : Start M). b.hand.known ≡ known) starts' × (start.hand.known ≡ known)
  known_by known all = All-pop (λ (b : Start M). b.hand.known ≡ known) starts starts' (Some start) first all

  all_refused : (e : RunError) → IsErrOf rest e ⊎ IsErrOf mine e → AreAnswers mind w starts (Err e)
  all_refused e (inl theirs) = record { count = tt; own = tt; works = tt; errors = subst (λ r. IfErr r IsRefusal) theirs are.errors; limit = λ is known all. are.limit (theirs ∙ is) known (known_by known all).0 }
  all_refused e (inr ours) = record { count = tt; own = tt; works = tt; errors = subst (λ r. IfErr r IsRefusal) ours (one_refused mine answer.errors); limit = λ is known all. subst (IsOneTooLong mind w.window.now) (known_by known all).1 (answer.limit cc) }

  -- where one worker more answers, after those that began before it
  pub answers_more : (r : Result (Vec (Work M)) RunError) → IfOk r (λ works. (before : Vec (Work M)) × (work : Work M) × (rest ≡ Ok before) × (mine ≡ Ok work) × (works.items ≡ before.items ++ work ∷ []))
      → IfErr r (λ e. IsFirstRefusal rest mine e ⊎ ((e ≡ Memory) × AreThere rest mine)) → AreAnswers mind w starts r
  answers_more (Ok works) ok err = all_worked works ok.0 ok.1 ok.2 ok.3 ok.4
  answers_more (Err e) ok (inl first) = all_refused e first.one
  answers_more (Err e) ok (inr last) = record { count = tt; own = tt; works = tt; errors = inr (inl last.0); limit = λ is. absurd (not_limit e last.0 is) }
