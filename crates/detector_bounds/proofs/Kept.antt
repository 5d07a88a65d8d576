-- The bounds are kept, by each kind of detector.
use Rattle.detector_bounds.proofs.{Words.{◌≡◌, List, refl, EntryRecord, DetectorNumbers, Timeout, Freshness, IsInRange, Record, setting_of, IsTrace, KeepsBounds}, Freshness.Bounded.{freshness_keeps}, Timeouts.Bounded.{timeout_keeps}}

pub bounds_kept : (s : Record) → IsInRange s → (trace : List EntryRecord) → IsTrace (setting_of s) trace → KeepsBounds s trace
bounds_kept s ranges trace is_trace = by s.detector refl
  where
    by : (kind : DetectorNumbers) → s.detector ≡ kind → KeepsBounds s trace
    by (Timeout its) is = timeout_keeps s ranges its is trace is_trace
    by (Freshness its) is = freshness_keeps s ranges its is trace is_trace
