-- One action more, where what was done so far and what the rest does is what all actions do.
use Rattle.steps.proofs.Words.{slice_index_or, slice_set, [], length, ◌<◌, ◌≡◌, ◌≤◌, ◌+◌, ◌++◌, ◌∷◌, ℕ, List, sym, ap, subst, ◌∙◌, append_assoc, append-nil, arith, AllByRecursion, drop, Action, HaveJoined, drop-set-lt, drop_more, Joined, joined_next, Setting, counted, sent_by, lost_by, noted_by, counts_after, sent, lost, noted}
use Rattle.process_api.specs.declared.action.Note.{Note}

lost_by-le : {Mind : Type 0} (S : Setting Mind) (p now : ℕ) (f : ℕ → ℕ) (a : Action) → lost_by S p now f a ≤ 1
lost_by-le S p now f a = grind arith

sent_by-le : (a : Action) → sent_by a ≤ 1
sent_by-le a = grind arith

counted-le : (p : ℕ) (counts : ℕ → ℕ) (a : Action) (q : ℕ) → counted p counts a q ≤ counts q + 1
counted-le p counts a q = grind arith

module _ (all rest left : List Action) (a : Action) (e : rest ≡ a ∷ left) where
  pub one_sent : (old new : ℕ) → new ≡ old + sent_by a → old + sent rest ≡ sent all → new + sent left ≡ sent all
  one_sent old new is whole = omega (arith, is, whole, ap sent e)

  pub one_noted : (old new : List Note) → new ≡ old ++ noted_by a → old ++ noted rest ≡ noted all → new ++ noted left ≡ noted all
  one_noted old new more whole = cc (append_assoc old (noted_by a) (noted left), ap noted e)

  pub one_sent_few : (old new : ℕ) → new ≡ old + sent_by a → old + length rest ≤ length all → new + length left ≤ length all
  one_sent_few old new is few = omega (arith, is, few, sent_by-le a, ap (λ xs. length xs) e)

  pub one_allowed : (P : Action → Type 0) → AllByRecursion P rest → AllByRecursion P left
  one_allowed P h = (subst (AllByRecursion P) e h).1

  module _ (p : ℕ) (before f g : ℕ → ℕ) (h : g ≡ counted p f a) where
    pub one_counted : counts_after p f rest ≡ counts_after p before all → counts_after p g left ≡ counts_after p before all
    one_counted whole = ap (λ k. counts_after p k left) h ∙ (ap (counts_after p f) (sym e) ∙ whole)

    pub one_room : ((q : ℕ) → f q + length rest ≤ before q + length all) → (q : ℕ) → g q + length left ≤ before q + length all
    one_room whole q = omega (arith, counted-le p f a q, whole q, ap (λ xs. length xs) e, ap (λ k. k q) h)

    module _ {Mind : Type 0} (S : Setting Mind) (now : ℕ) where
      pub one_lost : (old new : ℕ) → new ≡ old + lost_by S p now f a → old + lost S p now f rest ≡ lost S p now before all → new + lost S p now g left ≡ lost S p now before all
      one_lost old new is whole = omega (arith, is, whole, ap (λ xs. lost S p now f xs) e, ap (λ k. lost S p now k left) h)

      pub one_lost_few : (old new : ℕ) → new ≡ old + lost_by S p now f a → old + length rest ≤ length all → new + length left ≤ length all
      one_lost_few old new is few = omega (arith, is, few, lost_by-le S p now f a, ap (λ xs. length xs) e)

    -- `of` gives the events that join by actions, or the letters that are posted, and `some` are those of this action
    pub one_joined : {J E : Type 0} (grown : J → List E → J → Type 0) (of : (ℕ → ℕ) → List Action → List E) (some : List E) → of f (a ∷ left) ≡ some ++ of (counted p f a) left
        → (old new next : J) → HaveJoined grown new next some → Joined grown old new (of f rest) (of before all) → Joined grown old next (of g left) (of before all)
    one_joined grown of some parts old new next more is =
        joined_next grown old new next some (of f rest) (of g left) (of before all) more is
        (ap (λ k. (is.done ++ some) ++ of k left) h
        ∙ (append_assoc is.done some (of (counted p f a) left)
        ∙ (ap (λ xs. is.done ++ xs) (sym (ap (of f) e ∙ parts)) ∙ is.whole)))

-- nothing is left
module _ (all rest : List Action) (none : rest ≡ []) where
  pub sent_all : (old : ℕ) → old + sent rest ≡ sent all → old ≡ sent all
  sent_all old whole = omega (arith, whole, ap sent none)

  pub noted_all : (old : List Note) → old ++ noted rest ≡ noted all → old ≡ noted all
  noted_all old whole = sym (append-nil old) ∙ ap (λ xs. old ++ noted xs) (sym none) ∙ whole

  module _ (p : ℕ) (before f : ℕ → ℕ) where
    pub counted_all : counts_after p f rest ≡ counts_after p before all → f ≡ counts_after p before all
    counted_all whole = ap (counts_after p f) (sym none) ∙ whole

    pub lost_all : {Mind : Type 0} (S : Setting Mind) (now old : ℕ) → old + lost S p now f rest ≡ lost S p now before all → old ≡ lost S p now before all
    lost_all S now old whole = omega (arith, whole, ap (λ xs. lost S p now f xs) none)

-- the rest of a list from a place where it is changed, and the rest after it
pub drop_at : {X : Type 0} (xs : List X) (i : ℕ) (x v : X) → i < length xs → x ≡ slice_index_or xs i x → drop i xs ≡ x ∷ drop (i + 1) (slice_set xs i v)
drop_at xs i x v inside is =
    drop_more xs i x inside ∙ (λ j. sym is j ∷ sym (drop-set-lt (i + 1) xs i v (omega arith)) j)
