-- What the bounds of pairs make of the verdicts: strong accuracy, where all links that are watched are reliable, and strong
-- completeness, where all watch all.
use Rattle.std.proofs.Common.{◌≡◌, ◌≢◌, ℕ, suc, ◌+◌, ◌<◌, ◌≤◌, refl, ap, ◌∙◌, true, not, nat_eq, nat_le, Option, None, Some, List, arith, unwrap_or, le-leb, ne_eqb}
use Rattle.detector_bounds.proofs.Words.{EntryRecord, is_process, is_watched, is_other, and_true, Record, crash, link, crash_tick, detected_at, HasNoMistake, CrashesAt, KeepsBounds, trusts, longest, Watches, IsReliable, watch_of}
use Rattle.process_api.specs.declared.numbers.Watch.TheVariants.{All}
use Rattle.judges.specs.Verdicts.{IsLeastTick, IsProcess, IsCorrect, IsCrashed, From, Suspects, strong_accuracy, strong_completeness}
use Rattle.judges.proofs.Meaning.{verdicts_mean}

module _ (s : Record) (trace : List EntryRecord) where
  -- what is shown of each pair
  pub record PairsKeep : Type 0 where
    pub detects : (q p c : ℕ) → IsCorrect s q → Watches s q p → CrashesAt s trace p c → From s (Suspects s trace 1 q p) (detected_at s trace q p c)
    pub soon : (q p c : ℕ) → Watches s q p → CrashesAt s trace p c → detected_at s trace q p c ≤ c + longest s.detector (link s p q) (trusts trace q p) c
    pub accurate : (q p : ℕ) → Watches s q p → IsReliable s p q → HasNoMistake s trace q p
    -- nobody suspects whom it doesn't watch
    pub watched : (q p t : ℕ) → IsProcess s q → IsProcess s p → t < s.horizon → Suspects s trace 1 q p t → Watches s q p

  module _ (pairs : PairsKeep) where
    accurate_then : ((q p : ℕ) → Watches s q p → IsReliable s p q) → strong_accuracy s trace 1 ≡ true
    accurate_then reliable = (verdicts_mean s trace 1).strong_accuracy.1 (λ t below q q_up p p_up suspected.
        let watches = pairs.watched q p t q_up.0 p_up.0 below suspected in
        pairs.accurate q p watches (reliable q p watches) t (omega (arith, below, q_up.1, p_up.1)) suspected)

    crash_at : (o : Option ℕ) → unwrap_or o (suc s.horizon) < s.horizon → (c : ℕ) × (o ≡ Some c) × (c < s.horizon)
    crash_at None below = absurd (omega (arith, below))
    crash_at (Some c) below = (c, refl, below)

    -- whoever is correct watches whoever crashes, where all watch all
    all_watch : watch_of s.detector ≡ All → (q p : ℕ) → IsCorrect s q → IsCrashed s p → Watches s q p
    all_watch all q p correct crashed = (
      correct.0,
      ap (λ w. is_watched q s.processes w p) all
          ∙ and_true (is_other q s.processes p) true
          (and_true (is_process s.processes p) (not (nat_eq p q)) (and_true (nat_le 1 p) (nat_le p s.processes) (le-leb 1 p crashed.0.0) (le-leb p s.processes crashed.0.1)) (ap not (ne_eqb p q apart)))
          refl,
    )
      where
        apart : p ≢ q
        apart e = omega (arith, correct.1, crashed.1, ap (crash_tick s) e)

    abbrev Complete : ℕ → Type 0
    Complete = From s (λ u. (q : ℕ) → IsCorrect s q → (p : ℕ) → IsCrashed s p → Suspects s trace 1 q p u)

    complete_then : watch_of s.detector ≡ All → (t : ℕ) → t < s.horizon → ((q p c : ℕ) → IsCorrect s q → CrashesAt s trace p c → detected_at s trace q p c ≤ t)
        → (u : ℕ) × (strong_completeness s trace 1 ≡ Some u) × (u ≤ t)
    complete_then all t below by_then = go (strong_completeness s trace 1) ((verdicts_mean s trace 1).strong_completeness)
      where
        is_complete : Complete t
        is_complete u since early q correct p crashed =
            let at = crash_at (crash s p) crashed.1 in
            pairs.detects q p at.0 correct (all_watch all q p correct crashed) (crashed.0, at.1, at.2) u
            (omega (arith, since, by_then q p at.0 correct (crashed.0, at.1, at.2))) early

        go : (o : Option ℕ) → IsLeastTick Complete s.horizon o → (u : ℕ) × (o ≡ Some u) × (u ≤ t)
        go None never = absurd (never t below is_complete)
        go (Some u) least = (u, refl, least.2 t below is_complete)

    pub pairs_keep : KeepsBounds s trace
    pairs_keep = record {
      detects = pairs.detects;
      soon = pairs.soon;
      accurate = pairs.accurate;
      all_accurate = accurate_then;
      complete = complete_then;
    }
