-- What no run breaks, on layer 1. Where bounds on delays are known, the detector is perfect within the horizon, of
-- class P of Chandra and Toueg (Journal of the ACM 43(2), 1996). The bound of freshness points is that of Chen, Toueg
-- and Aguilera (IEEE Transactions on Computers 51(5), 2002).
use Rattle.std.specs.Prelude.{◌≡◌, ℕ, ◌+◌, ◌<◌, ◌≤◌, true, List, Some}
use Rattle.{process_api.specs.{Order.{EntryRecord}, declared.numbers.Watch.TheVariants.{All}}, scenario_record.specs.Record.{Record, crash, link}}
use Rattle.{judges.specs.{Out.{end_of}, Verdicts.{IsProcess, IsCorrect, From, Suspects, strong_accuracy, strong_completeness}}, detector_bounds.specs.Detected.{trusts, detected_by, longest, Watches, IsReliable, watch_of}}

module _ (S : Record) (trace : List EntryRecord) where
  -- the tick from which, at the latest, q suspects p to the end, where p crashes at tick c
  abbrev pub detected_at : (q p c : ℕ) → ℕ
  detected_at q p c = detected_by S.detector (link S p q) (trusts trace q p) c

  -- q never suspects p at the end of a tick at which neither has crashed
  abbrev pub HasNoMistake : (q p : ℕ) → Type 0
  HasNoMistake q p = (t : ℕ) → t < end_of S q p → ¬ (Suspects S trace 1 q p t)

  -- process p crashes at tick c, below the horizon
  abbrev pub CrashesAt : (p c : ℕ) → Type 0
  CrashesAt p c = IsProcess S p × (crash S p ≡ Some c) × (c < S.horizon)

  pub record KeepsBounds : Type 0 where
    -- whoever watches a process that crashes, and is correct, suspects it from its bound on, up to the horizon
    pub detects : (q p c : ℕ) → IsCorrect S q → Watches S q p → CrashesAt p c
        → From S (Suspects S trace 1 q p) (detected_at q p c)
    -- and that bound is soon after the crash
    pub soon : (q p c : ℕ) → Watches S q p → CrashesAt p c
        → detected_at q p c ≤ c + longest S.detector (link S p q) (trusts trace q p) c
    -- over a reliable link there is no mistake
    pub accurate : (q p : ℕ) → Watches S q p → IsReliable S p q → HasNoMistake q p
    -- where all links that are watched are reliable, nobody makes one
    pub all_accurate : ((q p : ℕ) → Watches S q p → IsReliable S p q) → strong_accuracy S trace 1 ≡ true
    -- where all watch all, and all correct ones detect each crash by tick t below the horizon, completeness comes by t
    pub complete : watch_of S.detector ≡ All → (t : ℕ) → t < S.horizon
        → ((q p c : ℕ) → IsCorrect S q → CrashesAt p c → detected_at q p c ≤ t)
        → (u : ℕ) × (strong_completeness S trace 1 ≡ Some u) × (u ≤ t)
