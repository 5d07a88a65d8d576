-- What it is that runs were added up.
use Rattle.std.specs.{Prelude.{◌≡◌, ℕ, ◌+◌, ◌*◌, ◌^◌, ◌<◌, ◌≤◌, List, [], ◌∷◌, ◌++◌, length}, List.{All, AllZip, cons_option}}
use Rattle.runs.specs.Grounds.{HasGrounds}
use Rattle.sweep.specs.{Columns.{done_on, AreLayerSums, AreFirstRuns, all_durations, all_detections, is_limited, last_decisions, top_rounds}, Percentile.{AreCounted}, Fitting.{IsLayerWithin, most_runs, most_of, most_pairs, most_mistakes}}
use Rattle.{sweep.specs.Results.{Trial}, sweep.specs.declared.{columns.LayerSums.{LayerSums}, group.Group.{Group}, point_sums.{LayerTotals.{LayerTotals}, LayerValues.{LayerValues}, PointSums.{PointSums}}}}
use Rattle.sweep.specs.declared.{run_numbers.{GroupNumbers.{GroupNumbers}, LayerNumbers.{LayerNumbers}, RunNumbers.{RunNumbers}}, unit_sums.UnitSums.{UnitSums}}

module _ (group : Group) (layer : ℕ) (trials : List Trial) where
  pub record AreFitting (s : LayerSums) : Type 0 where
    pub sums : AreLayerSums group layer trials s
    pub grounds : All (λ r. HasGrounds r.scenario r.trace) (done_on layer trials)
    pub few_runs : length trials ≤ most_runs
    pub within : IsLayerWithin (most_of (length trials)) s
    pub few_detected : length (all_detections group layer trials) ≤ most_pairs (length trials)
    pub few_undetected : s.pairs.undetected ≤ most_pairs (length trials)
    pub few_ticks : s.pairs.mistake_ticks ≤ most_mistakes (length trials)

  -- what the runs give
  pub record AreLayerNumbers (n : LayerNumbers) : Type 0 where
    pub fitting : AreFitting n.sums
    pub durations : n.durations.items ≡ all_durations group layer trials
    pub detections : n.detections.items ≡ all_detections group layer trials
    pub last_decision : cons_option n.last_decision [] ≡ last_decisions layer trials
    pub top_round : cons_option n.top_round [] ≡ top_rounds layer trials

  -- what was counted of them
  pub record AreLayerValues (v : LayerValues) : Type 0 where
    pub lasted : AreCounted (all_durations group layer trials) v.durations
    pub few_lasted : length (all_durations group layer trials) ≤ length trials * 2 ^ 64
    pub detected : AreCounted (all_detections group layer trials) v.detections
    pub decided : AreCounted (last_decisions layer trials) v.last_decisions
    pub rounds : AreCounted (top_rounds layer trials) v.rounds

  -- what was added up of them, numbered from the first on
  pub record AreLayerTotals (first : ℕ) (t : LayerTotals) : Type 0 where
    pub fitting : AreFitting t.sums
    pub values : AreLayerValues t.values
    pub first_runs : AreFirstRuns group layer first trials t.first_runs

-- the numbers of a group are those of this run, on each layer that it has
pub record AreGroupNumbers (group : Group) (trial : Trial) (n : GroupNumbers) : Type 0 where
  pub first : AreLayerNumbers group 1 (trial ∷ []) n.first
  pub second : AreLayerNumbers group 2 (trial ∷ []) n.second

-- the numbers are those of this run, of each group
pub record AreNumbers (groups : List Group) (trial : Trial) (n : RunNumbers) : Type 0 where
  pub each : AllZip (λ group n. AreGroupNumbers group trial n) groups n.groups.items
  pub limited : n.is_limited ≡ is_limited trial.result

-- the sums of a group are those of these runs, numbered from the first on
pub record AreSums (group : Group) (first : ℕ) (trials : List Trial) (s : PointSums) : Type 0 where
  pub on_first : AreLayerTotals group 1 trials first s.first
  pub on_second : AreLayerTotals group 2 trials first s.second
  pub first_high : first < 2 ^ 64
  pub next : s.next ≡ first + length trials

-- and so are those of each group
abbrev pub AreUnitSums : List Group → (first : ℕ) → List Trial → UnitSums → Type 0
AreUnitSums groups first trials s = AllZip (λ group sums. AreSums group first trials sums) groups s.groups.items

-- and of all groups
abbrev pub AddsRun : RunNumbers → (old new : UnitSums) → Type 0
AddsRun numbers old new = (groups : List Group) (first : ℕ) (trials : List Trial) (trial : Trial)
    → length trials < most_runs → AreUnitSums groups first trials old → AreNumbers groups trial numbers
    → AreUnitSums groups first (trials ++ trial ∷ []) new
