-- Every row of layer 1 keeps to the bounds.
use Rattle.runs.proofs.Words.{◌≡◌, inl, inr, ℕ, zero, suc, ◌-◌, ◌<◌, ◌≤◌, refl, sym, ap, ◌∙◌, subst, Bool, true, not, cond, arith, List, unwrap_or, cond-true, cond-false, cases_Bool, lt-ltb, le-ltb, EntryRecord, both_true, and_true, Record, crash_tick, is_crashed, is_correct, end_of, suspects, all_from, least_from, all_from-from, CrashesAt, KeepsBounds, detected_at, IsBounded, KeepsToBounds, count_below, delay_after, detection, is_measured, measured, pair_measures, starts, At, Na}
use Rattle.{runs.proofs.Least.{least_by}, judges.specs.Verdicts.{IsCorrect}}
use Rattle.detector_bounds.specs.Detected.{IsReliable, Watches}

-- ---- ticks

none_counted : (test : ℕ → Bool) (end : ℕ) → ((t : ℕ) → t < end → ¬ (test t ≡ true)) → count_below test end ≡ 0
none_counted test zero none = refl
none_counted test (suc v) none =
    elim (cases_Bool (test v)) [
      | inl is ↦ absurd (none v (omega arith) is)
      | inr not_so ↦
          let early = none_counted test v (λ t below. none t (omega (arith, below))) in
          let last : cond (test v) 1 0 ≡ 0 = cond-false {A = ℕ} (test v) 1 0 not_so in
          omega (arith, early, last)
    ]

-- ---- rows

module _ (S : Record) (trace : List EntryRecord) (keeps : KeepsBounds S trace) where
  is_crash_tick : (p c : ℕ) → CrashesAt S trace p c → crash_tick S p ≡ c
  is_crash_tick p c crashes = ap (λ o. unwrap_or o (suc S.horizon)) crashes.1

  is_measured_then : (q p c : ℕ) → IsCorrect S q → CrashesAt S trace p c → is_measured S q p ≡ true
  is_measured_then q p c correct crashes =
      let crashed : is_crashed S p ≡ true = lt-ltb (crash_tick S p) S.horizon (omega (arith, is_crash_tick p c crashes, crashes.2)) in
      let up : is_correct S q ≡ true = ap not (le-ltb (crash_tick S q) S.horizon correct.1) in
      and_true (is_crashed S p) (is_correct S q) crashed up

  detection_by : (q p c : ℕ) → IsCorrect S q → Watches S q p → CrashesAt S trace p c → detected_at S trace q p c < S.horizon
      → (ticks : ℕ) × (detection S q p (suspects 1 trace q p) ≡ At ticks) × (ticks ≤ detected_at S trace q p c - c)
  detection_by q p c correct watches crashes below =
      let suspected = suspects 1 trace q p in
      let until = detected_at S trace q p c in
      let lasts : all_from suspected until S.horizon ≡ true = all_from-from suspected until S.horizon (keeps.detects q p c correct watches crashes) in
      let least = least_by (λ t. all_from suspected t S.horizon) S.horizon until below lasts in (
        least.0 - c,
        cond-true (is_measured S q p) _ Na (is_measured_then q p c correct crashes)
            ∙ ((λ i. delay_after (is_crash_tick p c crashes i) (least_from suspected S.horizon)) ∙ ap (delay_after c) least.1),
        omega (arith, least.2),
      )

  no_start : (q p : ℕ) → Watches S q p → IsReliable S p q → (t : ℕ) → t < end_of S q p → ¬ (suspects 1 trace q p t ≡ true)
  no_start q p watches reliable t below suspected = keeps.accurate q p watches reliable t below suspected

  keeps_row : (q p : ℕ) → KeepsToBounds S trace (measured S 1 q p (suspects 1 trace q p))
  keeps_row q p = record {
    detection = detection_by q p;
    mistakes = λ watches reliable. (
      none_counted (starts (suspects 1 trace q p)) (end_of S q p) (λ t below is. no_start q p watches reliable t below (both_true _ _ is).0),
      none_counted (suspects 1 trace q p) (end_of S q p) (no_start q p watches reliable),
    );
  }

  pub bounded : (layer q p : ℕ) → IsBounded S trace (pair_measures S trace layer q p)
  unfolding pair_measures
  bounded layer q p one = subst (λ l. KeepsToBounds S trace (measured S l q p (suspects l trace q p))) (sym one) (keeps_row q p)
