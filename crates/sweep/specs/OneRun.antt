-- What one run that is done tells on a layer.
use Rattle.std.specs.{Prelude.{ℕ, ◌-◌, ◌==◌, ◌&&◌, Bool, true, false, not, if◌then◌else◌, nat_lt, is_some, Option, None, Some, List, [], length, map}, List.{filter, filter_map, flat_map, list_all, list_any, sum_by}}
use Rattle.{detector_bounds.specs.Detected.{detected_by, trusts, watch_of}, judges.specs.{Out.{crash_tick, is_correct, end_of}, Outcomes.{outcomes}, declared.outcomes.{Answer.{Answer}, Outcome.{Outcome}}}}
use Rattle.judges.specs.declared.outcomes.Answer.TheVariants as answer
use Rattle.{process_api.specs.{Order.{EntryRecord}, Place.{is_watched}}, reporting.specs.{Measures.{layer_measures, pair_durations}, declared.pair_measures.{Detection.{Detection, TheVariants.{Na, NoTick, At}}, PairMeasures.{PairMeasures}}}}
use Rattle.{scenario_record.specs.{Ranges.{is_idle}, Record.{Record, link}}, sweep.specs.{Groups.{is_in}, Percentile.{greatest}, declared.group.Group.{Group}}}

-- a run that is done
pub record Finished : Type 0 where
  pub scenario : Record
  pub trace : List EntryRecord

-- whether the pair of observer q and subject p counts: it is of the group, and on layer 1 q's detector watches p
abbrev pub counts_on : Group → (layer : ℕ) → Record → (q p : ℕ) → Bool
counts_on group layer S q p =
    is_in group q p && (if layer == 1 then is_watched q S.processes (watch_of S.detector) p else true)

-- those of the measures that are of pairs that count
abbrev pub counted_of : Group → (layer : ℕ) → Record → List PairMeasures → List PairMeasures
counted_of group layer S all = filter (λ m. counts_on group layer S m.observer m.subject) all

abbrev pub detection_time : Detection → Option ℕ
detection_time Na = None
detection_time NoTick = None
detection_time (At ticks) = Some ticks

abbrev pub is_undetected : Detection → Bool
is_undetected Na = false
is_undetected NoTick = true
is_undetected (At ticks) = false

-- the suspicion had begun by the tick of the crash
abbrev pub is_at_once : Detection → Bool
is_at_once Na = false
is_at_once NoTick = false
is_at_once (At ticks) = ticks == 0

-- how long it took, and 0 where there is none
abbrev pub detection_ticks : Detection → ℕ
detection_ticks Na = 0
detection_ticks NoTick = 0
detection_ticks (At ticks) = ticks

-- the times of the detections
abbrev pub times_of : List PairMeasures → List ℕ
times_of pairs = filter_map (λ m. detection_time m.detection) pairs

-- a crash was to be detected
abbrev pub is_to_detect : Detection → Bool
is_to_detect Na = false
is_to_detect NoTick = true
is_to_detect (At ticks) = true

-- how many ticks after the crash of p, at most, q suspects it to the end on layer 1, where it trusted it again so
-- often: from this tick on it does, in whatever run. None where the tick isn't before the horizon
abbrev pub bound_after : Record → (trusts q p : ℕ) → Option ℕ
bound_after S trusts q p = if nat_lt (detected_by S.detector (link S p q) trusts (crash_tick S p)) S.horizon
    then Some (detected_by S.detector (link S p q) trusts (crash_tick S p) - crash_tick S p)
    else None

-- of each crash that was to be detected
abbrev pub bounds_of : Record → (trusts : (q p : ℕ) → ℕ) → List PairMeasures → List (Option ℕ)
bounds_of S trusts pairs = map (λ m. bound_after S (trusts m.observer m.subject) m.observer m.subject)
    (filter (λ m. is_to_detect m.detection) pairs)

-- of those on a layer: the bounds are known on layer 1 alone
abbrev pub bounds_on : (layer : ℕ) → Record → (trusts : (q p : ℕ) → ℕ) → List PairMeasures → List (Option ℕ)
bounds_on layer S trusts pairs = if layer == 1 then bounds_of S trusts pairs else []

module _ (group : Group) (layer : ℕ) (r : Finished) where
  -- the measures of the pairs that count
  abbrev pub counted_pairs : List PairMeasures
  counted_pairs = counted_of group layer r.scenario (layer_measures r.scenario r.trace layer)

  -- for how many ticks these pairs are watched: each below the end of its measures
  abbrev pub pair_ticks : ℕ
  pair_ticks = sum_by (λ m. end_of r.scenario m.observer m.subject) counted_pairs

  abbrev pub mistakes : ℕ
  mistakes = sum_by (λ m. m.mistakes) counted_pairs

  abbrev pub has_mistake : Bool
  has_mistake = nat_lt 0 mistakes

  abbrev pub detections : List ℕ
  detections = times_of counted_pairs

  -- the bounds of these detections, and of those that didn't come, with the trusts of the run
  abbrev pub bounds : List (Option ℕ)
  bounds = bounds_on layer r.scenario (trusts r.trace) counted_pairs

  -- how long each mistake was that ended
  abbrev pub durations : List ℕ
  durations = flat_map (λ m. pair_durations r.scenario r.trace layer m.observer m.subject) counted_pairs

abbrev pub decided_value : Answer → Option ℕ
decided_value answer.None = None
decided_value answer.NoValue = None
decided_value (answer.Value value) = Some value

abbrev pub has_decided : Outcome → Bool
has_decided o = is_some (decided_value o.value)

-- the tick at which a process decided a value
abbrev pub decision_tick : Outcome → Option ℕ
decision_tick o = if has_decided o then o.tick else None

-- the greatest round that a process noted
abbrev pub noted_round : Outcome → Option ℕ
noted_round o = if o.rounds == 0 then None else Some o.rounds

-- whether two of the values differ
abbrev pub do_differ : List ℕ → Bool
do_differ values = list_any (λ v. list_any (λ w. not (v == w)) values) values

-- whether two processes decided different values
abbrev pub do_disagree : List Outcome → Bool
do_disagree all = do_differ (filter_map (λ o. decided_value o.value) all)

-- the greatest round that some process noted
abbrev pub top_round : List Outcome → Option ℕ
top_round all = greatest (filter_map noted_round all)

-- a process is to decide where there is an algorithm, and the process is correct
abbrev pub is_to_decide : Record → ℕ → Bool
is_to_decide S p = not (is_idle S.algorithm) && is_correct S p

-- those of the outcomes that are of processes that are to decide
abbrev pub deciding_of : Record → List Outcome → List Outcome
deciding_of S all = filter (λ o. is_to_decide S o.pid) all

-- of the outcomes of those that are to decide: there are some, and each decided a value
abbrev pub do_all_decide : List Outcome → Bool
do_all_decide deciding = nat_lt 0 (length deciding) && list_all has_decided deciding

-- one of them didn't
abbrev pub is_undecided : List Outcome → Bool
is_undecided deciding = not (list_all has_decided deciding)

-- the tick of the last decision, where all decided
abbrev pub last_decision : List Outcome → Option ℕ
last_decision deciding = if list_all has_decided deciding then greatest (filter_map decision_tick deciding) else None

module _ (r : Finished) where
  abbrev pub run_outcomes : List Outcome
  run_outcomes = outcomes r.trace r.scenario.processes

  abbrev pub deciding : List Outcome
  deciding = deciding_of r.scenario run_outcomes
