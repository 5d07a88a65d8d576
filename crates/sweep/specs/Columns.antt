-- What a row tells of a point's runs on a layer: sums, counts, percentiles and maxima over all of them.
use Rattle.std.specs.{Prelude.{◌≡◌, ℕ, ◌+◌, ◌-◌, ◌*◌, ◌/◌, ◌≤◌, ◌==◌, Bool, true, false, if◌then◌else◌, is_none, is_some, Option, None, Some, List, [], ◌∷◌, length}, List.{count_by, filter, filter_map, flat_map, list_any, sum, sum_by}}
use Rattle.{detector_bounds.specs.{Bounds.{CrashesAt, detected_at}, Detected.{Watches}}, judges.specs.{Verdicts.{IsCorrect, verdicts}, declared.{outcomes.Outcome.{Outcome}, verdicts.Verdicts.{Verdicts}}}}
use Rattle.{reporting.specs.{Measures.{layers}, declared.pair_measures.PairMeasures.{PairMeasures}}, scenario_record.specs.Record.{Record}, trace_laws.specs.History.{IsIn}, sweep.specs.Groups.{is_in}}
use Rattle.sweep.specs.OneRun.{Finished, detection_ticks, is_undetected, is_at_once, counted_pairs, pair_ticks, mistakes, has_mistake, durations, detections, bounds, has_decided, decision_tick, run_outcomes, deciding, do_disagree, do_all_decide, is_undecided, last_decision, top_round}
use Rattle.sweep.specs.{Percentile.{greatest, IsPercentile}, Results.{RunResult, finished, limited, Trial}}
use Rattle.sweep.specs.declared.columns.{Columns.{Columns}, DecisionSums.{DecisionSums}, DetectionBounds.{DetectionBounds}, Distribution.{Distribution}, FirstRuns.{FirstRuns}, LayerSums.{LayerSums}, PairSums.{PairSums}, RunCounts.{RunCounts}, TraceSums.{TraceSums}, VerdictCounts.{VerdictCounts}}
use Rattle.sweep.specs.declared.group.Group.{Group}

-- whether the runs of a scenario have a layer: each has layer 1, those with a reduction have layer 2 as well
abbrev pub has_layer : (layer : ℕ) → Record → Bool
has_layer layer S = list_any (λ l. l == layer) (layers S)

-- the runs that have a layer
abbrev pub on_layer : (layer : ℕ) → List Trial → List Trial
on_layer layer trials = filter (λ t. has_layer layer t.scenario) trials

abbrev pub is_limited : RunResult → Bool
is_limited (finished trace) = false
is_limited limited = true

abbrev pub finish_of : Record → RunResult → Option Finished
finish_of S (finished trace) = Some (record { scenario = S; trace = trace })
finish_of S limited = None

-- those of the runs that are done: one that passed its limit is counted, and adds nothing else
abbrev pub finished_of : List Trial → List Finished
finished_of trials = filter_map (λ t. finish_of t.scenario t.result) trials

-- those of the runs that have the layer and are done
abbrev pub done_on : (layer : ℕ) → List Trial → List Finished
done_on layer trials = finished_of (on_layer layer trials)

-- ---- what is told of values

-- how many they are, the percentiles and the greatest, where so many infinite ones come after them
pub record IsDistribution (values : List ℕ) (infinite : ℕ) (d : Distribution) : Type 0 where
  pub many : d.count ≡ length values
  pub p50 : IsPercentile 50 values infinite d.p50
  pub p90 : IsPercentile 90 values infinite d.p90
  pub p99 : IsPercentile 99 values infinite d.p99
  pub highest : d.greatest ≡ greatest values

-- a quotient, rounded down; nothing where there is nothing to divide by
abbrev pub over : ℕ → ℕ → Option ℕ
over a b = if b == 0 then None else Some (a / b)

-- the number of the first that passes a test, where the first of all has this number
abbrev pub first_number : {X : Type 0} → (X → Bool) → (number : ℕ) → List X → Option ℕ
first_number passes number [] = None
first_number passes number (x ∷ xs) = if passes x then Some number else first_number passes (number + 1) xs

-- ---- what all of them tell

pub record AreTraceSums (runs : List Finished) (s : TraceSums) : Type 0 where
  pub entries : s.entries ≡ sum_by (λ r. length r.trace) runs
  pub sent : s.sent ≡ sum_by (λ r. sum_by (λ e. e.sent) r.trace) runs
  pub lost : s.lost ≡ sum_by (λ r. sum_by (λ e. e.lost) r.trace) runs

pub record ArePairSums (pairs : List PairMeasures) (s : PairSums) : Type 0 where
  pub mistakes : s.mistakes ≡ sum_by (λ m. m.mistakes) pairs
  pub mistake_ticks : s.mistake_ticks ≡ sum_by (λ m. m.mistake_ticks) pairs
  pub recurrence_sum : s.recurrence_sum ≡ sum_by (λ m. m.recurrence_sum) pairs
  pub recurrence_count : s.recurrence_count ≡ sum_by (λ m. m.recurrence_count) pairs
  pub duration_sum : s.duration_sum ≡ sum_by (λ m. m.duration_sum) pairs
  pub duration_count : s.duration_count ≡ sum_by (λ m. m.duration_count) pairs
  pub good_sum : s.good_sum ≡ sum_by (λ m. m.good_sum) pairs
  pub good_count : s.good_count ≡ sum_by (λ m. m.good_count) pairs
  pub undetected : s.undetected ≡ count_by (λ m. is_undetected m.detection) pairs
  pub at_once : s.at_once ≡ count_by (λ m. is_at_once m.detection) pairs
  pub detection_sum : s.detection_sum ≡ sum_by (λ m. detection_ticks m.detection) pairs

-- the greatest of the bounds of detections, and whether one is missing
pub record AreBounds (all : List (Option ℕ)) (b : DetectionBounds) : Type 0 where
  pub highest : b.greatest ≡ greatest (filter_map (λ bound. bound) all)
  pub late : b.is_late ≡ list_any is_none all

-- the greatest of them, where none is missing
abbrev pub detection_bound : DetectionBounds → Option ℕ
detection_bound b = if b.is_late then None else b.greatest

-- of the outcomes of the processes that are to decide
pub record AreDecisionSums (all : List Outcome) (s : DecisionSums) : Type 0 where
  pub to_decide : s.to_decide ≡ length all
  pub decided : s.decided ≡ count_by has_decided all
  pub decision_tick_sum : s.decision_tick_sum ≡ sum (filter_map decision_tick all)
  pub decision_tick_max : s.decision_tick_max ≡ greatest (filter_map decision_tick all)

module _ (layer : ℕ) where
  -- in how many runs a verdict holds
  abbrev pub count_verdicts : (Verdicts → Bool) → List Finished → ℕ
  count_verdicts holds runs = count_by (λ r. holds (verdicts r.scenario r.trace layer)) runs

  pub record AreVerdictCounts (runs : List Finished) (s : VerdictCounts) : Type 0 where
    pub strong_completeness : s.strong_completeness ≡ count_verdicts (λ v. is_some v.strong_completeness) runs
    pub weak_completeness : s.weak_completeness ≡ count_verdicts (λ v. is_some v.weak_completeness) runs
    pub strong_accuracy : s.strong_accuracy ≡ count_verdicts (λ v. v.strong_accuracy) runs
    pub weak_accuracy : s.weak_accuracy ≡ count_verdicts (λ v. v.weak_accuracy) runs
    pub eventual_strong_accuracy : s.eventual_strong_accuracy
        ≡ count_verdicts (λ v. is_some v.eventual_strong_accuracy) runs
    pub eventual_weak_accuracy : s.eventual_weak_accuracy ≡ count_verdicts (λ v. is_some v.eventual_weak_accuracy) runs

  -- the ticks of the last decisions, and the greatest rounds
  abbrev pub last_decisions : List Trial → List ℕ
  last_decisions trials = filter_map (λ r. last_decision (deciding r)) (done_on layer trials)

  abbrev pub top_rounds : List Trial → List ℕ
  top_rounds trials = filter_map (λ r. top_round (run_outcomes r)) (done_on layer trials)

  -- whether a run has the layer, is done, and passes a test
  abbrev pub does : (Finished → Bool) → Trial → Bool
  does passes t = list_any passes (done_on layer (t ∷ []))

-- what no run breaks: where there is a bound, each crash that was to be detected was, and none later than by the bound
abbrev pub KeepsBound : Columns → Type 0
KeepsBound c = (bound : ℕ) → detection_bound c.sums.bounds ≡ Some bound
    → (c.sums.pairs.undetected ≡ 0) × (longest : ℕ) × (c.detections.greatest ≡ Some longest) × (longest ≤ bound)

module _ (group : Group) where
  -- in a run, a correct process q watches p, which crashes at tick c, and the pair is of the group
  pub record IsAwaited (r : Finished) (q p c : ℕ) : Type 0 where
    pub grouped : is_in group q p ≡ true
    pub correct : IsCorrect r.scenario q
    pub watches : Watches r.scenario q p
    pub crashes : CrashesAt r.scenario r.trace p c

  module _ (runs : List Finished) where
    -- that is so in one of the runs, and a fact holds of the tick by which q suspects p at the latest
    abbrev pub SomeAwaited : (Finished → (c until : ℕ) → Type 0) → Type 0
    SomeAwaited P = (r : Finished) × IsIn r runs × (q p c : ℕ) × IsAwaited r q p c
        × P r c (detected_at r.scenario r.trace q p c)

    pub record TellsBound (b : DetectionBounds) : Type 0 where
      -- the bound is the time from one of these crashes to that tick, so no greater one is told than there has to be
      pub attained : (bound : ℕ) → detection_bound b ≡ Some bound → SomeAwaited (λ r c until. bound ≡ until - c)
      -- where there is such a crash, and no bound is told, one of these ticks isn't before the horizon
      pub missing : detection_bound b ≡ None → SomeAwaited (λ r c until. Unit {0})
          → SomeAwaited (λ r c until. r.scenario.horizon ≤ until)

module _ (group : Group) (layer : ℕ) where
  -- in how many runs something is so
  pub record AreRunCounts (runs : List Finished) (s : RunCounts) : Type 0 where
    pub with_mistakes : s.with_mistakes ≡ count_by (has_mistake group layer) runs
    pub all_decided : s.all_decided ≡ count_by (λ r. do_all_decide (deciding r)) runs
    pub undecided : s.undecided ≡ count_by (λ r. is_undecided (deciding r)) runs
    pub disagreements : s.disagreements ≡ count_by (λ r. do_disagree (run_outcomes r)) runs

  -- the measures of all pairs of the runs that count
  abbrev pub all_pairs : List Finished → List PairMeasures
  all_pairs runs = flat_map (counted_pairs group layer) runs

  -- what the runs that are done add up to
  pub record AreDoneSums (runs : List Finished) (s : LayerSums) : Type 0 where
    pub traces : AreTraceSums runs s.traces
    pub pair_ticks : s.pair_ticks ≡ sum_by (pair_ticks group layer) runs
    pub pairs : ArePairSums (all_pairs runs) s.pairs
    pub mistakes_squared_sum : s.mistakes_squared_sum
        ≡ sum_by (λ r. mistakes group layer r * mistakes group layer r) runs
    pub verdicts : AreVerdictCounts layer runs s.verdicts
    pub bounds : AreBounds (flat_map (bounds group layer) runs) s.bounds
    pub decisions : AreDecisionSums (flat_map deciding runs) s.decisions
    pub counts : AreRunCounts runs s.counts

  pub record AreLayerSums (trials : List Trial) (s : LayerSums) : Type 0 where
    pub runs : s.runs ≡ length (on_layer layer trials)
    pub limited : s.limited ≡ count_by (λ t. is_limited t.result) (on_layer layer trials)
    pub done : AreDoneSums (done_on layer trials) s

  -- how long each mistake was that ended, and the times of all detections
  abbrev pub all_durations : List Trial → List ℕ
  all_durations trials = flat_map (durations group layer) (done_on layer trials)

  abbrev pub all_detections : List Trial → List ℕ
  all_detections trials = flat_map (detections group layer) (done_on layer trials)

  -- of the runs from the first on that have a detection after so many ticks, the number of the first
  abbrev pub first_after : (first : ℕ) → List Trial → Option ℕ → Option ℕ
  first_after first trials None = None
  first_after first trials (Some v) =
      first_number (does layer (λ r. list_any (λ t. t == v) (detections group layer r))) first trials

  module _ (first : ℕ) (trials : List Trial) where
    -- the numbers of the first runs in which something is so, where all runs are numbered from the first on
    pub record AreFirstRuns (f : FirstRuns) : Type 0 where
      pub mistake : f.mistake ≡ first_number (does layer (has_mistake group layer)) first trials
      pub detection_max : f.detection_max ≡ first_after first trials (greatest (all_detections trials))
      pub disagreement : f.disagreement ≡ first_number (does layer (λ r. do_disagree (run_outcomes r))) first trials

    -- what the layer's row tells of the runs
    pub record AreColumns (c : Columns) : Type 0 where
      pub sums : AreLayerSums trials c.sums
      pub mistake_recurrence : c.mistake_recurrence ≡ over c.sums.pair_ticks c.sums.pairs.mistakes
      pub mistaken_ppm : c.mistaken_ppm ≡ over (1000000 * c.sums.pairs.mistake_ticks) c.sums.pair_ticks
      pub durations : IsDistribution (all_durations trials) 0 c.durations
      pub detections : IsDistribution (all_detections trials) c.sums.pairs.undetected c.detections
      pub last_decisions : IsDistribution (last_decisions layer trials) c.sums.counts.undecided c.last_decisions
      pub rounds : IsDistribution (top_rounds layer trials) 0 c.rounds
      pub first_runs : AreFirstRuns c.first_runs
      pub kept : layer ≡ 1 → KeepsBound c
      pub told : layer ≡ 1 → TellsBound group (done_on 1 trials) c.sums.bounds
