-- What stands behind that which is told of the detectors of a run.
use Rattle.std.specs.{Prelude.{◌≡◌, ℕ, ◌-◌, ◌<◌, ◌≤◌, Bool, true, List, Some}, List.{All}}
use Rattle.{process_api.specs.Order.{EntryRecord}, scenario_record.specs.Record.{Record}, judges.specs.{Out.{IsBlamedBy, SharesSuspicions, suspects, end_of}, Verdicts.{AreVerdicts, IsCorrect, verdicts}, Track.{least_from}}}
use Rattle.detector_bounds.specs.{Bounds.{CrashesAt, KeepsBounds, detected_at}, Detected.{IsReliable, Watches}}
use Rattle.reporting.specs.{Measures.{all_measures, starts}, declared.pair_measures.{PairMeasures.{PairMeasures}, Detection.TheVariants.{At}}}

module _ (S : Record) (trace : List EntryRecord) where
  module _ (row : PairMeasures) where
    -- whether the row's observer suspects its subject on layer 2, tick by tick
    abbrev pub suspected : ℕ → Bool
    suspected = suspects 2 trace row.observer row.subject

    -- a mistake starts at tick t
    abbrev pub IsMistake : ℕ → Type 0
    IsMistake t = (t < end_of S row.observer row.subject) × (starts suspected t ≡ true)

    -- the suspicion that lasts to the horizon starts at tick t
    abbrev pub IsDetection : ℕ → Type 0
    IsDetection t = least_from suspected S.horizon ≡ Some t

    -- where a mistake is told, one starts at a tick by which some entry had noted on layer 1 that its process suspects
    -- the subject; and so does the suspicion by which a crash was detected
    pub record HasBlame : Type 0 where
      pub mistake : 1 ≤ row.mistakes → (t : ℕ) × IsMistake t × IsBlamedBy trace row.subject t
      pub detection : (ticks : ℕ) → row.detection ≡ At ticks → (t : ℕ) × IsDetection t × IsBlamedBy trace row.subject t

    abbrev pub RestsOnBlame : Type 0
    RestsOnBlame = row.layer ≡ 2 → HasBlame

    -- no run breaks this, in a row of layer 1
    pub record KeepsToBounds : Type 0 where
      -- a correct observer that watches one detects its crash at tick c by its bound, where that is below the horizon
      pub detection : (c : ℕ) → IsCorrect S row.observer → Watches S row.observer row.subject
          → CrashesAt S trace row.subject c
          → detected_at S trace row.observer row.subject c < S.horizon
          → (ticks : ℕ) × (row.detection ≡ At ticks) × (ticks ≤ detected_at S trace row.observer row.subject c - c)
      -- over a reliable link no mistake is made, at no tick
      pub mistakes : Watches S row.observer row.subject → IsReliable S row.subject row.observer
          → (row.mistakes ≡ 0) × (row.mistake_ticks ≡ 0)

    abbrev pub IsBounded : Type 0
    IsBounded = row.layer ≡ 1 → KeepsToBounds

  pub record HasGrounds : Type 0 where
    -- the verdicts on each layer mean what they say of all or some processes, at all ticks or from one on
    pub meaning : (layer : ℕ) → AreVerdicts S trace layer (verdicts S trace layer)
    -- each suspicion of layer 2 comes after one of layer 1 of the same process
    pub shares : SharesSuspicions trace
    -- each measured mistake or detection on layer 2 is of a process that some base detector had suspected by then
    pub blame : All RestsOnBlame (all_measures S trace)
    -- the bounds of the detector are kept, by the trace and by each measured row
    pub bounds : KeepsBounds S trace
    pub bounded : All IsBounded (all_measures S trace)
