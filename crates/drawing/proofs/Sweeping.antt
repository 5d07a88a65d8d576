-- What a sweep knows, as turns go by.
use Rattle.drawing.proofs.Words.{◌≡◌, ℕ, zero, suc, ◌+◌, ◌-◌, ◌<◌, ◌≤◌, max, Bool, true, false, cond, inl, inr, refl, sym, ap, ◌∙◌, arith, Option, None, Some, List, cases_lt, lt-ltb, le-ltb, le-leb, lt-leb, Found, passed_by, passed, found, stretches, found_of, IsPassed, IsSwept, after, Bar, Sweep}
use Rattle.drawing.proofs.Stretching.{found_same}

twice : (a b : ℕ) (holds : Bool) (ended : List Bar) (running : Option ℕ) → passed a holds (passed_by b holds ended running) ≡ passed_by b holds ended running
twice a b true ended None = refl
twice a b false ended None = refl
twice a b true ended (Some begin) = refl
twice a b false ended (Some begin) = refl

-- several ticks at which the test is the same
same_ticks : (test : ℕ → Bool) (from n : ℕ) (holds : Bool) (j : ℕ) → n < j → ((k : ℕ) → n ≤ k → k < j → test (from + k) ≡ holds)
    → found test from j ≡ passed (from + n) holds (found test from n)
same_ticks test from n holds zero l e = absurd (omega arith)
same_ticks test from n holds (suc j) l e =
    ap (λ b. passed (from + j) b (found test from j)) (e j (omega arith) (omega arith))
    ∙ elim (cases_lt n j) [
      | inl x ↦
          ap (passed (from + j) holds) (same_ticks test from n holds j x (λ k y z. e k y (omega arith)))
          ∙ twice (from + j) (from + n) holds (found test from n).ended (found test from n).running
      | inr x ↦ ap (λ i. passed (from + i) holds (found test from i)) (let same : j ≡ n = omega arith in same)
    ]

module _ (test : ℕ → Bool) (from until : ℕ) (old new : Sweep) (p : IsPassed until old new) (h : IsSwept test from old) where
  passing : found_of new ≡ found test from (new.tick - from)
  passing =
      elim (cases_lt old.tick until) [
        | inl l ↦
            let at : from + (old.tick - from) ≡ old.tick = omega (arith, h.low) in
            let end : until - from ≡ new.tick - from = omega (arith, p.tick) in
            p.found ∙ ap (λ b. cond b (passed old.tick old.current (found_of old)) (found_of old)) (lt-ltb old.tick until l)
            ∙ ap (passed old.tick old.current) h.found
            ∙ ap (λ t. passed t old.current (found test from (old.tick - from))) (sym at)
            ∙ sym (same_ticks test from (old.tick - from) old.current (until - from) (omega (arith, h.low))
            (λ k x y. h.later (from + k) (omega (arith, h.low))))
            ∙ ap (found test from) end
        | inr l ↦
            let end : old.tick - from ≡ new.tick - from = omega (arith, p.tick) in
            p.found ∙ ap (λ b. cond b (passed old.tick old.current (found_of old)) (found_of old)) (le-ltb old.tick until l)
            ∙ h.found ∙ ap (found test from) end
      ]

  module _ (reached : old.tick ≤ max from until) where
    pub turned : (suspected : Bool) → IsSwept (after test (record { tick = until; suspected = suspected })) from (record new { current = suspected })
    turned suspected = record {
      low = omega (arith, p.tick, h.low);
      found = passing ∙ found_same test (after test (record { tick = until; suspected = suspected })) from (new.tick - from)
          (λ u x y. sym (ap (λ b. cond b suspected (test u)) (lt-leb until u (omega (arith, p.tick, h.low, reached)))));
      later = λ u x. ap (λ b. cond b suspected (test u)) (le-leb until u (omega (arith, p.tick)));
    }

    pub closed : (passed until false (found_of new)).ended ≡ stretches test from until
    closed =
        let end : new.tick - from ≡ until - from = omega (arith, p.tick, h.low, reached) in
        ap (λ (f : Found). (passed until false f).ended) (passing ∙ ap (found test from) end)
