-- What it is that runs were added up, as private functions say it.
use Rattle.std.specs.Prelude.{◌≡◌, ℕ, ◌+◌, ◌*◌, ◌^◌, ◌<◌, ◌≤◌, List, [], ◌∷◌, ◌++◌, length, false, true}
use Rattle.{judges.specs.{Verdicts.{verdicts}, declared.verdicts.Verdicts.{Verdicts}}, process_api.specs.Order.{EntryRecord}}
use Rattle.reporting.specs.{Durations.{AreDurations}, Measures.{layer_measures}, Running.{IsSummary}, declared.{pair_measures.PairMeasures.{PairMeasures}, summary.Summary.{Summary}}}
use Rattle.{runs.specs.{Grounds.{HasGrounds}, Finishing.{AreTrusts}}, scenario_record.specs.{Ranges.{IsInRange}, Record.{Record}}}
use Rattle.sweep.specs.{Columns.{has_layer, AreColumns, all_detections}, Fitting.{most_runs, most_pairs}, Results.{Trial, done_run, limited_run}}
use Rattle.sweep.specs.declared.{columns.Columns.{Columns}, group.Group.{Group}, point_sums.{LayerTotals.{LayerTotals}, LayerValues.{LayerValues}, PointSums.{PointSums}}}
use Rattle.sweep.specs.{declared.run_numbers.{GroupNumbers.{GroupNumbers}, LayerFindings.{LayerFindings}, LayerNumbers.{LayerNumbers}}, Sums.{AreLayerNumbers, AreLayerValues, AreLayerTotals, AreGroupNumbers, AreSums}}

-- of a run that is done: its summary, and its verdicts and measures on a layer, each in its range
pub record AreLayerFindings (layer : ℕ) (S : Record) (trace : List EntryRecord)
    (summary : Summary) (found : Verdicts) (pairs : List PairMeasures) : Type 0 where
  pub ranges : IsInRange S
  pub within : length trace ≤ S.limit
  pub summed : IsSummary S trace summary
  pub sent_high : summary.sent ≤ length trace * 2 ^ 32
  pub lost_high : summary.lost ≤ length trace * 2 ^ 32
  pub judged : found ≡ verdicts S trace layer
  pub measured : pairs ≡ layer_measures S trace layer
  pub grounds : HasGrounds S trace

-- of a run that is done these are the numbers on a layer, if the rest was found of its trace
abbrev pub AreOfFindings : Group → (layer : ℕ) → Record → LayerFindings → LayerNumbers → Type 0
AreOfFindings group layer S f n = (trace : List EntryRecord) → has_layer layer S ≡ true
    → AreLayerFindings layer S trace f.summary.now f.verdicts.now f.pairs.now
    → AreDurations S layer trace f.durations.now → AreTrusts S.processes trace f.trusts.now
    → AreLayerNumbers group layer (done_run S trace ∷ []) n

-- these are the numbers of a run that passed its limit, on each layer that it has
abbrev pub AreOfLimited : LayerNumbers → Type 0
AreOfLimited n = (group : Group) (layer : ℕ) (S : Record) → has_layer layer S ≡ true
    → AreLayerNumbers group layer (limited_run S ∷ []) n

-- and of any run on a layer that it hasn't
abbrev pub AreOfNoLayer : LayerNumbers → Type 0
AreOfNoLayer n = (group : Group) (layer : ℕ) (trial : Trial) → has_layer layer trial.scenario ≡ false
    → AreLayerNumbers group layer (trial ∷ []) n

-- the old counts of any runs, as long as they aren't too many, give the new counts of these runs and of one more
abbrev pub CountsOneMore : LayerNumbers → (old new : LayerValues) → Type 0
CountsOneMore run old new = (group : Group) (layer : ℕ) (trials : List Trial) (trial : Trial)
    → length trials < most_runs → length (all_detections group layer trials) ≤ most_pairs (length trials)
    → AreLayerValues group layer trials old → AreLayerNumbers group layer (trial ∷ []) run
    → AreLayerValues group layer (trials ++ trial ∷ []) new

-- the same of the sums on a layer, where the one more has this number
abbrev pub TotalsOneMore : (number : ℕ) → LayerNumbers → (old new : LayerTotals) → Type 0
TotalsOneMore number run old new = (group : Group) (layer first : ℕ) (trials : List Trial) (trial : Trial)
    → length trials < most_runs → number ≡ first + length trials → AreLayerTotals group layer trials first old
    → AreLayerNumbers group layer (trial ∷ []) run → AreLayerTotals group layer (trials ++ trial ∷ []) first new

-- and these columns tell of any runs that were added up to them
abbrev pub AreColumnsOf : LayerTotals → Columns → Type 0
AreColumnsOf totals c = (group : Group) (layer first : ℕ) (trials : List Trial)
    → AreLayerTotals group layer trials first totals → AreColumns group layer first trials c

-- one more run is added to the sums of both layers
abbrev pub AddsOneMore : GroupNumbers → (old new : PointSums) → Type 0
AddsOneMore numbers old new = (group : Group) (first : ℕ) (trials : List Trial) (trial : Trial)
    → length trials < most_runs → AreSums group first trials old → AreGroupNumbers group trial numbers
    → AreSums group first (trials ++ trial ∷ []) new
