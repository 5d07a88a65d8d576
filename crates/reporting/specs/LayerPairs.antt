-- What is counted of all pairs on a layer, and what their meters tell.
use Rattle.std.specs.Prelude.{ℕ, suc, ◌+◌, ◌-◌, ◌*◌, List, map, flat_map, get_or}
use Rattle.{process_api.specs.{Place.{numbers_to, others}, Order.{EntryRecord}}, scenario_record.specs.Record.{Record}, judges.specs.{Turns.{opened}, Pairs.{ArePairs}, declared.{pair.Pair.{Pair}, pairs.Pairs.{Pairs}}}}
use Rattle.reporting.specs.{Meter.{closed, crash_between}, Tally.{counted, new_tally}, declared.{meter.Meter.{Meter}, pair_measures.PairMeasures.{PairMeasures}, tally.Tally.{Tally}}}

-- they were fed with the entries of a trace
abbrev pub IsMetering : Record → (layer : ℕ) → List EntryRecord → Pairs Tally → Type 0
IsMetering S layer trace pairs = ArePairs counted S layer new_tally trace pairs

module _ (pairs : Pairs Tally) where
  -- observer i + 1 and subject j + 1
  abbrev pub pair : (i j : ℕ) → Pair Tally
  pair i j = get_or pairs.pairs.items (i * pairs.processes + j) (opened 0 new_tally)

  abbrev pub metered : (i j : ℕ) → Meter
  metered i j = record {
    layer = pairs.layer;
    observer = i + 1;
    subject = j + 1;
    horizon = pairs.horizon;
    crash = crash_between (pair i i).end (pair j j).end pairs.horizon;
    pair = pair i j;
  }

  -- what the meters of observer i + 1 tell of each other subject
  abbrev pub closed_row : ℕ → List PairMeasures
  closed_row i = map (λ p. closed (metered i (p - 1))) (others pairs.processes (suc i))

  -- and those of the first observers
  abbrev pub closed_rows : (observers : ℕ) → List PairMeasures
  closed_rows observers = flat_map (λ q. closed_row (q - 1)) (numbers_to observers)
