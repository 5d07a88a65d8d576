-- The outcomes of every trace of the rotating coordinator agree.
use Rattle.judges.proofs.Words.{◌≡◌, ◌≢◌, ℕ, ◌≤◌, inl, inr, refl, sym, ap, ◌∙◌, subst, Bool, true, false, cond, not, List, [], ◌∷◌, map, Option, None, Some, unwrap_or, filter, find, EntryRecord, numbers_to, Decided, numbers_are, IsInRange, Record, proposal, IsIn, setting_of, IsTrace, setting_sound, Agrees, DecidesOnce, answers_of, notes_of, is_answer, value_of, outcome, outcomes, Outcome}
use Rattle.judges.proofs.{Agreement.{Coordinators.{trace_one_value, trace_proposed, trace_once}, Answering.{answers_by, answers_are, value_in, decides_once}, Joined.{RunsCoordinator}, Locking.{there_is}}, Instances.{runs_coordinator}}
use Rattle.{judges.proofs.Members.{each_of, of_image}, process_api.specs.declared.action.Note.{Note}}
use Rattle.scenario_record.specs.Ranges.{is_idle}
use Rattle.scenario_record.specs.declared.algorithm.AlgorithmKind.TheVariants as kind
use Rattle.judges.specs.Verdicts.{IsProcess}
use Rattle.judges.specs.declared.outcomes.Answer.TheVariants as answer

-- ---- what an outcome tells

-- the first that passes is the first of those that pass
front : {X : Type 0} → List X → Option X
front [] = None
front (x ∷ xs) = Some x

found : {X : Type 0} (f : X → Bool) (xs : List X) → find f xs ≡ front (filter f xs)
unfolding front
found f [] = refl
found f (x ∷ xs) = elim (f x) as (λ b. cond b (Some x) (find f xs) ≡ front (cond b (x ∷ filter f xs) (filter f xs))) [ true ↦ refl | false ↦ found f xs ]

module _ (trace : List EntryRecord) (p : ℕ) where
  value_is : (answers : List (ℕ × Note)) → answers_of trace p ≡ answers → (outcome trace p).value ≡ value_of (front answers)
  value_is answers are = ap value_of (found (λ n. is_answer n.1) (notes_of trace p) ∙ ap front are)

  -- a value is a decision's
  pub valued : DecidesOnce trace p → (v : ℕ) → (outcome trace p).value ≡ answer.Value v → IsIn (Some v) (answers_by p trace)
  unfolding front
  valued (inl none) v is = absurd (cc (is, value_is [] none))
  valued (inr (tick, w, one)) v is =
      let same : v ≡ w = cc (is, value_is ((tick, Decided w) ∷ []) one) in
      subst (IsIn (Some v)) (ap (map value_in) (sym one) ∙ answers_are p trace) (inl (ap Some same))

  pub never_novalue : DecidesOnce trace p → (outcome trace p).value ≢ answer.NoValue
  unfolding front
  never_novalue (inl none) is = cc (is, value_is [] none)
  never_novalue (inr (tick, w, one)) is = cc (is, value_is ((tick, Decided w) ∷ []) one)

-- ---- of all processes

one_of : (s : Record) (trace : List EntryRecord) (o : Outcome) → IsIn o (outcomes trace s.processes) → (p : ℕ) × IsProcess s p × (o ≡ outcome trace p)
one_of s trace o i =
    let r = of_image (outcome trace) (numbers_to s.processes) o i in
    (r.0, each_of (λ q. (1 ≤ q) × (q ≤ s.processes)) (numbers_to s.processes) (numbers_are s.processes) r.0 r.1, r.2)

module _ (s : Record) (is : IsInRange s) (algorithm : s.algorithm ≡ kind.EventuallyStrong) (trace : List EntryRecord) (is_trace : IsTrace (setting_of s) trace) where
  runs : RunsCoordinator (setting_of s) (λ p. unwrap_or (proposal s p) 0)
  runs = runs_coordinator s algorithm

  once : (p : ℕ) → DecidesOnce trace p
  once p = decides_once p trace (trace_once (setting_of s) (setting_sound s is) (λ p. unwrap_or (proposal s p) 0) runs trace is_trace p)

  proposes : (q v : ℕ) → IsProcess s q → v ≡ unwrap_or (proposal s q) 0 → proposal s q ≡ Some v
  proposes q v own e =
      let some = there_is (proposal s q) (is.proposed q own.0 own.1 ∙ ap (λ k. not (is_idle k)) algorithm) in
      some.1 ∙ ap Some (sym (e ∙ ap (λ o. unwrap_or o 0) some.1))

  decided : (o : Outcome) → IsIn o (outcomes trace s.processes) → (v : ℕ) → o.value ≡ answer.Value v → (p : ℕ) × IsProcess s p × IsIn (Some v) (answers_by p trace)
  decided o i v e = let r = one_of s trace o i in (r.0, r.1, valued trace r.0 (once r.0) v (sym (ap (λ (o : Outcome). o.value) r.2) ∙ e))

  pub agrees : Agrees s trace
  agrees = record {
    agree = record {
      one_value = λ a b i j v w e f.
          let p = decided a i v e in
          let q = decided b j w f in
          trace_one_value (setting_of s) (setting_sound s is) (λ p. unwrap_or (proposal s p) 0) runs trace is_trace p.0 q.0 v w p.1 q.1 p.2 q.2;
      proposed = λ a i v e.
          let p = decided a i v e in
          let r = trace_proposed (setting_of s) (setting_sound s is) (λ p. unwrap_or (proposal s p) 0) runs trace is_trace p.0 v p.1 p.2 in
          (r.0, r.1, proposes r.0 v r.1 r.2);
      valued = λ a i e. let r = one_of s trace a i in never_novalue trace r.0 (once r.0) (sym (ap (λ (o : Outcome). o.value) r.2) ∙ e);
    };
    once = once;
  }
