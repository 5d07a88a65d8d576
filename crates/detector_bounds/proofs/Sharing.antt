-- A detection is shared: in every trace, whichever kind of detector shares.
use Rattle.detector_bounds.proofs.Words.{◌≡◌, ◌≢◌, ℕ, suc, false, max, ◌+◌, ◌-◌, ◌<◌, ◌≤◌, refl, sym, ap, ◌∙◌, List, arith, Some, unwrap_or, true, EntryRecord, DetectorNumbers, Timeout, Freshness, IsInRange, Record, crash, link, setting_of, has_crashed, IsTrace, IsCorrect, out, CrashesAt, detected_at, trusts, last_before, LosesNothing, silent_from, least_delay, most_delay, told_at, SharesDetection, Watches}
use Rattle.detector_bounds.proofs.{Freshness.Bounded.{Firmly, firmly_kept, firmly}, Multiples.{from_tick}, Shared.{shared_then}, Watching.{watched_is, up_until}}
use Rattle.detector_bounds.proofs.Timeouts.Bounded as timeouts

module _ (s : Record) (is : IsInRange s) (trace : List EntryRecord) (is_trace : IsTrace (setting_of s) trace) where
  module _ (period w p r c t : ℕ) (shares : s.share ≡ Some period) (correct_w : IsCorrect s w) (watches : Watches s w p) (crashes : CrashesAt s trace p c) (correct_r : IsCorrect s r) (sure : LosesNothing s w r)
      (late : told_at s trace period w p r c + most_delay s w r ≤ t) (below : t < s.horizon) where
    not_r : p ≢ r
    not_r same = omega (arith, correct_r.1, crashes.2, ap (λ o. unwrap_or o (suc s.horizon)) (sym crashes.1 ∙ ap (crash s) same))

    detected_before : detected_at s trace w p c ≤ t
    detected_before = omega (arith, late, from_tick period (max (detected_at s trace w p c + 1) (silent_from period (link s p r) (last_before period c) - least_delay s w r)) (is.share period shares).0)

    w_up : (u : ℕ) → u ≤ t → has_crashed (crash s w) u ≡ false
    w_up = up_until s w t (omega (arith, below, correct_w.1))

    by_kind : (kind : DetectorNumbers) → s.detector ≡ kind → out 2 trace r t p ≡ true
    by_kind (Freshness its) kind =
        let other = watched_is s w p watches in
        shared_then s is period shares t below w p r c watches.0.0 watches.0.1 other.0 other.1 correct_r.0.0 correct_r.0.1 (λ same. other.2 (sym same)) not_r crashes.1 w_up (up_until s r t (omega (arith, below, correct_r.1))) sure
        (detected_at s trace w p c) (trusts trace w p)
        (Firmly s is its kind trace is_trace t below w p c watches crashes.1 w_up detected_before)
        (firmly_kept s is its kind trace is_trace t below w p c watches crashes.1 w_up detected_before)
        (λ v past k few none. firmly s is its kind trace is_trace t below w p c watches crashes.1 w_up detected_before v past k none)
        trace is_trace (omega arith) late
    by_kind (Timeout its) kind =
        let other = watched_is s w p watches in
        let early : timeouts.until s is its kind trace w p c watches crashes < s.horizon = omega (arith, below, detected_before, timeouts.until_is s is its kind trace w p c watches crashes) in
        shared_then s is period shares t below w p r c watches.0.0 watches.0.1 other.0 other.1 correct_r.0.0 correct_r.0.1 (λ same. other.2 (sym same)) not_r crashes.1 w_up (up_until s r t (omega (arith, below, correct_r.1))) sure
        (detected_at s trace w p c) (trusts trace w p)
        (timeouts.Firmly s is its kind trace w p c watches crashes correct_w early)
        (timeouts.firmly_kept s is its kind trace w p c watches crashes correct_w early (t + 1))
        (timeouts.firmly s is its kind trace w p c watches crashes correct_w early)
        trace is_trace (omega arith) late

  pub shares_detection : SharesDetection s trace
  shares_detection period w p r c shares correct_w watches crashes correct_r sure t late below = by_kind period w p r c t shares correct_w watches crashes correct_r sure late below s.detector refl
