-- The quality of service of each pair (Chen, Toueg and Aguilera, IEEE Transactions on Computers 51(5), 2002): where
-- they take means over runs without end, these are sums and counts over the ticks of one run, cut at its horizon.
use Rattle.std.specs.Prelude.{ℕ, ◌-◌, Bool, not, ◌&&◌, if◌then◌else◌, Option, None, Some, is_some, List, [], ◌∷◌, map, flat_map, zero, suc, ◌+◌, ◌||◌, nat_lt, nat_le, ◌++◌}
use Rattle.{process_api.specs.{Place.{numbers_to, others}, Order.{EntryRecord}}, scenario_record.specs.Record.{Record}, judges.specs.{Out.{crash_tick, is_crashed, is_correct, end_of, suspects}, Track.{before, least_from, all_below}}}
use Rattle.reporting.specs.declared.pair_measures.{PairMeasures.{PairMeasures}, Detection.{Detection, TheVariants.{Na, NoTick, At}}}

-- the sum of an amount over 0 to end - 1
abbrev pub sum_below : (ℕ → ℕ) → (end : ℕ) → ℕ
sum_below amount zero = 0
sum_below amount (suc t) = sum_below amount t + amount t

-- how many of 0 to end - 1 pass
abbrev pub count_below : (ℕ → Bool) → (end : ℕ) → ℕ
count_below test end = sum_below (λ t. if test t then 1 else 0) end

-- whether t is the next tick after s at which a test passes
abbrev pub is_next : (ℕ → Bool) → (s t : ℕ) → Bool
is_next test s t = (nat_lt s t && test t) && all_below (λ u. nat_le u s || not (test u)) t

-- the sum of an amount of t - s over all s that pass the first test and the next t that passes the second, below end
abbrev pub over_distances : (ℕ → ℕ) → (from to : ℕ → Bool) → (end : ℕ) → ℕ
over_distances amount from to end =
    sum_below (λ t. sum_below (λ s. if from s && is_next to s t then amount (t - s) else 0) t) end

-- the distances from a tick that passes the first test to the next that passes the second, where that is below end:
-- their sum, and how many there are
abbrev pub sum_of_distances : (from to : ℕ → Bool) → (end : ℕ) → ℕ
sum_of_distances = over_distances (λ d. d)

abbrev pub count_of_distances : (from to : ℕ → Bool) → (end : ℕ) → ℕ
count_of_distances = over_distances (λ d. 1)

-- the lists of 0 to end - 1, one after the other
abbrev pub list_below : (ℕ → List ℕ) → (end : ℕ) → List ℕ
list_below lists zero = []
list_below lists (suc t) = list_below lists t ++ lists t

-- these distances themselves, in the order of the ticks at which they end
abbrev pub distances : (from to : ℕ → Bool) → (end : ℕ) → List ℕ
distances from to end = list_below (λ t. list_below (λ s. if from s && is_next to s t then (t - s) ∷ [] else []) t) end

-- a tick at which suspicion starts (an S-transition), and one at which it ends (a T-transition)
abbrev pub starts : (ℕ → Bool) → ℕ → Bool
starts suspected t = suspected t && not (before suspected t)

abbrev pub ends : (ℕ → Bool) → ℕ → Bool
ends suspected t = not (suspected t) && before suspected t

-- how long after tick c the suspicion came that lasts to the horizon
abbrev pub delay_after : (c : ℕ) → Option ℕ → Detection
delay_after c None = NoTick
delay_after c (Some t) = At (t - c)

-- the detection of a crash is measured where the subject p crashes and the observer q doesn't
abbrev pub is_measured : Record → (q p : ℕ) → Bool
is_measured S q p = is_crashed S p && is_correct S q

-- of a pair whose suspicion is given tick by tick, which is a mistake at the ticks below an end
module _ (suspected : ℕ → Bool) (end : ℕ) where
  -- the mistakes: suspicions that start (their rate is 'mistake rate')
  abbrev pub mistakes : ℕ
  mistakes = count_below (starts suspected) end

  -- the ticks of suspicion (their share of all ticks is 1 - 'query accuracy probability')
  abbrev pub mistake_ticks : ℕ
  mistake_ticks = count_below suspected end

  -- from the start of a mistake to the start of the next ('mistake recurrence time')
  abbrev pub recurrence_sum : ℕ
  recurrence_sum = sum_of_distances (starts suspected) (starts suspected) end

  abbrev pub recurrence_count : ℕ
  recurrence_count = count_of_distances (starts suspected) (starts suspected) end

  -- from the start of a mistake to its end ('mistake duration')
  abbrev pub duration_sum : ℕ
  duration_sum = sum_of_distances (starts suspected) (ends suspected) end

  abbrev pub duration_count : ℕ
  duration_count = count_of_distances (starts suspected) (ends suspected) end

  -- each of these times
  abbrev pub durations : List ℕ
  durations = distances (starts suspected) (ends suspected) end

  -- from the end of a mistake to the start of the next ('good period duration')
  abbrev pub good_sum : ℕ
  good_sum = sum_of_distances (ends suspected) (starts suspected) end

  abbrev pub good_count : ℕ
  good_count = count_of_distances (ends suspected) (starts suspected) end

-- from the crash to the start of the suspicion that lasts to the horizon ('detection time')
abbrev pub detection : Record → (q p : ℕ) → (suspected : ℕ → Bool) → Detection
detection S q p suspected =
    if is_measured S q p then delay_after (crash_tick S p) (least_from suspected S.horizon) else Na

-- the measures of a pair whose suspicion is given tick by tick
abbrev pub measured : Record → (layer q p : ℕ) → (suspected : ℕ → Bool) → PairMeasures
measured S layer q p suspected = record {
  layer = layer;
  observer = q;
  subject = p;
  mistakes = mistakes suspected (end_of S q p);
  mistake_ticks = mistake_ticks suspected (end_of S q p);
  recurrence_sum = recurrence_sum suspected (end_of S q p);
  recurrence_count = recurrence_count suspected (end_of S q p);
  duration_sum = duration_sum suspected (end_of S q p);
  duration_count = duration_count suspected (end_of S q p);
  good_sum = good_sum suspected (end_of S q p);
  good_count = good_count suspected (end_of S q p);
  detection = detection S q p suspected;
}

-- the measures of observer q and subject p on a layer
unfoldable pub pair_measures : Record → List EntryRecord → (layer q p : ℕ) → PairMeasures
pair_measures S trace layer q p = measured S layer q p (suspects layer trace q p)

-- how long each mistake of observer q about subject p was that ended
abbrev pub pair_durations : Record → List EntryRecord → (layer q p : ℕ) → List ℕ
pair_durations S trace layer q p = durations (suspects layer trace q p) (end_of S q p)

-- layer 1, and layer 2 where there is a reduction
abbrev pub layers : Record → List ℕ
layers S = if is_some S.share then 1 ∷ 2 ∷ [] else 1 ∷ []

-- the measures on one layer: of each observer, in rising order, and each other subject, in rising order
unfoldable pub layer_measures : Record → List EntryRecord → (layer : ℕ) → List PairMeasures
layer_measures S trace layer =
    flat_map (λ q. map (pair_measures S trace layer q) (others S.processes q)) (numbers_to S.processes)

-- those on layer 2, where there is a reduction
abbrev pub second_measures : Record → List EntryRecord → List PairMeasures
second_measures S trace = if is_some S.share then layer_measures S trace 2 else []

-- all measures of a run, layer by layer
unfoldable pub all_measures : Record → List EntryRecord → List PairMeasures
all_measures S trace = flat_map (layer_measures S trace) (layers S)
