-- What a taken event does to a world.
use Rattle.trace_laws.proofs.Words.{◌≡◌, ◌≢◌, ◌⊎◌, ℕ, ◌≤◌, inl, inr, sym, subst, arith, IsTrue, ◌==◌, cond_both, eqb-false, eqb-true, Key, StepInput, Setting, IsSound, IsProcess, Event, Process, World, Has, IsWorld, made, taken, IsIn}
use Rattle.trace_laws.proofs.{Sets.{AreApart, AreNew, removed, removed_back, joined_cases, joined_old, joined_new}, Steps.{IsSent, change_at, change_other, step_sent, step_apart, step_counts, step_mind}}
use Rattle.std.specs.FinMap as map

module _ {Mind : Type 0} (S : Setting Mind) (w : World Mind) (k : Key) (x : StepInput) where
  pub process_at : (taken S w k x).process k.receiver ≡ (made S w k x).process
  process_at = change_at w.process k.receiver (made S w k x).process

  pub process_other : (q : ℕ) → q ≢ k.receiver → (taken S w k x).process q ≡ w.process q
  process_other q n = change_other w.process k.receiver (made S w k x).process q n

  pub taken_cases : (q : Key) (y : StepInput) → Has (taken S w k x).pending q y → IsIn (q, y) (made S w k x).added ⊎ ((q ≢ k) × Has w.pending q y)
  taken_cases q y h =
      elim (joined_cases (made S w k x).added (map.remove w.pending k) q y h) [ inl i ↦ inl i | inr old ↦ inr (removed w.pending k q y old) ]

  -- a process afterwards: the receiver by its step, each other one as it was
  pub by_receiver : (P : ℕ → Process Mind → Type 0) → P k.receiver (made S w k x).process → ((p : ℕ) → p ≢ k.receiver → P p (w.process p)) → (p : ℕ) → P p ((taken S w k x).process p)
  by_receiver P here there p =
      cond_both (p == k.receiver) _ _ (P p) (λ is. subst (λ r. P r (made S w k x).process) (sym (eqb-true p k.receiver is)) here) (λ is. there p (eqb-false p k.receiver is))

  module _ (sound : IsSound S) (is_world : IsWorld S w) (there : Has w.pending k x) where
    receiver : IsProcess S k.receiver
    receiver = is_world.received k x there

    mind : IsTrue (S.is_mind k.receiver (w.process k.receiver).mind)
    mind = is_world.minds k.receiver receiver

    pub made_sent : (e : Event) → IsIn e (made S w k x).added → IsSent S k.receiver k.tick (w.process k.receiver).counts (made S w k x).process.counts e
    made_sent = step_sent S sound (w.process k.receiver) k x receiver mind

    pub made_apart : AreApart (made S w k x).added
    made_apart = step_apart S sound (w.process k.receiver) k x receiver mind

    made_new : AreNew (map.remove w.pending k) (made S w k x).added
    made_new e i y h =
        let s = made_sent e i in
        let old = (removed w.pending k e.0 y h).1 in
        let few : e.0.number ≤ (w.process k.receiver).counts e.0.receiver = subst (λ p. e.0.number ≤ (w.process p).counts e.0.receiver) s.sender (is_world.counted e.0 y old) in
        omega (arith, s.above)

    pub taken_old : (q : Key) (y : StepInput) → q ≢ k → Has w.pending q y → Has (taken S w k x).pending q y
    taken_old q y n h = joined_old (made S w k x).added (map.remove w.pending k) made_apart made_new q y (removed_back w.pending k q y n h)

    pub taken_new : (q : Key) (y : StepInput) → IsIn (q, y) (made S w k x).added → Has (taken S w k x).pending q y
    taken_new q y i = joined_new (made S w k x).added (map.remove w.pending k) made_apart made_new q y i

    -- counts only rise
    pub taken_counts : (p q : ℕ) → (w.process p).counts q ≤ ((taken S w k x).process p).counts q
    taken_counts p q = by_receiver (λ r c. (w.process r).counts q ≤ c.counts q) (step_counts S sound (w.process k.receiver) k x receiver mind q) (λ r _. omega arith) p

    -- a world stays one
    pub taken_world : IsWorld S (taken S w k x)
    taken_world = record {
      minds = by_receiver (λ r c. IsProcess S r → IsTrue (S.is_mind r c.mind)) (λ _. step_mind S sound (w.process k.receiver) k x receiver mind) (λ r _. is_world.minds r);
      below = λ q y h. elim (taken_cases q y h) [ inl i ↦ (made_sent (q, y) i).below | inr p ↦ is_world.below q y p.1 ];
      received = λ q y h. elim (taken_cases q y h) [ inl i ↦ (made_sent (q, y) i).receiver | inr p ↦ is_world.received q y p.1 ];
      counted = λ q y h. elim (taken_cases q y h) [
        | inl i ↦
            let s = made_sent (q, y) i in
            subst (λ p. q.number ≤ ((taken S w k x).process p).counts q.receiver) (sym s.sender)
            (subst (λ (c : Process Mind). q.number ≤ c.counts q.receiver) (sym process_at) s.within)
        | inr p ↦ omega (arith, is_world.counted q y p.1, taken_counts q.sender q.receiver)
      ];
    }
