-- Sums that fit their types: each is at most some number.
use Rattle.std.specs.Prelude.{ℕ, ◌*◌, ◌^◌, ◌≤◌}
use Rattle.sweep.specs.declared.columns.{DecisionSums.{DecisionSums}, LayerSums.{LayerSums}, PairSums.{PairSums}, TraceSums.{TraceSums}}

-- how many runs may be added up
abbrev pub most_runs : ℕ
most_runs = 1000000000000

-- and how many values may be counted
abbrev pub most_values : ℕ
most_values = 2 ^ 120

-- each sum over so many runs is at most this: each has fewer than 2^17 measures on a layer, each below 2^64, and the
-- square of its mistakes is below 2^88
abbrev pub most_of : (runs : ℕ) → ℕ
most_of runs = runs * 2 ^ 88

-- so many runs have fewer pairs on a layer than this
abbrev pub most_pairs : (runs : ℕ) → ℕ
most_pairs runs = runs * 2 ^ 17

-- and fewer mistakes, and ticks of them: a pair has at most one for each tick, and a run fewer than 2^24 ticks
abbrev pub most_mistakes : (runs : ℕ) → ℕ
most_mistakes runs = runs * 2 ^ 41

module _ (most : ℕ) where
  pub record AreTracesWithin (s : TraceSums) : Type 0 where
    pub entries : s.entries ≤ most
    pub sent : s.sent ≤ most
    pub lost : s.lost ≤ most

  pub record ArePairsWithin (s : PairSums) : Type 0 where
    pub mistakes : s.mistakes ≤ most
    pub mistake_ticks : s.mistake_ticks ≤ most
    pub recurrence_sum : s.recurrence_sum ≤ most
    pub recurrence_count : s.recurrence_count ≤ most
    pub duration_sum : s.duration_sum ≤ most
    pub duration_count : s.duration_count ≤ most
    pub good_sum : s.good_sum ≤ most
    pub good_count : s.good_count ≤ most
    pub undetected : s.undetected ≤ most
    pub at_once : s.at_once ≤ most
    pub detection_sum : s.detection_sum ≤ most

  pub record AreDecisionsWithin (s : DecisionSums) : Type 0 where
    pub to_decide : s.to_decide ≤ most
    pub decided : s.decided ≤ most
    pub decision_tick_sum : s.decision_tick_sum ≤ most

  pub record IsLayerWithin (s : LayerSums) : Type 0 where
    pub traces : AreTracesWithin s.traces
    pub pair_ticks : s.pair_ticks ≤ most
    pub pairs : ArePairsWithin s.pairs
    pub mistakes_squared_sum : s.mistakes_squared_sum ≤ most
    pub decisions : AreDecisionsWithin s.decisions
