-- Verdicts on a layer: completeness and accuracy (Chandra, Toueg, Journal of the ACM 43(2), 1996), cut at the horizon.
use Rattle.std.specs.{Prelude.{ℕ, suc, Bool, true, not, ◌&&◌, if◌then◌else◌, Option, List, ◌≡◌, ◌<◌, ◌≤◌, None, Some, ◌+◌, ◌*◌, ◌==◌, get_or}, Bool.{Decides}}
use Rattle.{process_api.specs.Order.{EntryRecord}, judges.specs.{declared.{verdicts.Verdicts.{Verdicts}, pair.Pair.{Pair}, pairs.Pairs.{Pairs}, track.Track.{Track}}, Out.{is_up, is_crashed, is_correct, suspects, crash_tick, out}}}
use Rattle.{judges.specs.{Track.{all_below, any_below, all_from, least_below, suspected_from, trusted_from, latest_below, earliest_below}, Turns.{opened, kept_at}}, scenario_record.specs.Record.{Record}}

module _ (S : Record) where
  -- whether each of processes 1 to n that passes the first test passes the second, and whether some one passes both
  abbrev pub each : (ℕ → Bool) → (ℕ → Bool) → Bool
  each which test = all_below (λ i. if which (suc i) then test (suc i) else true) S.processes

  abbrev pub some : (ℕ → Bool) → (ℕ → Bool) → Bool
  some which test = any_below (λ i. which (suc i) && test (suc i)) S.processes

  -- of the ticks below the horizon: whether all pass, whether all from t on do, and the least that passes
  abbrev pub always : (ℕ → Bool) → Bool
  always test = all_below test S.horizon

  abbrev pub from_on : (ℕ → Bool) → (t : ℕ) → Bool
  from_on test t = all_from test t S.horizon

  abbrev pub least_tick : (ℕ → Bool) → Option ℕ
  least_tick test = least_below test S.horizon

  module _ (trace : List EntryRecord) (layer : ℕ) where
    abbrev pub suspected : (q p t : ℕ) → Bool
    suspected q p t = suspects layer trace q p t

    -- from t, every correct process suspects every crashed one
    abbrev pub strong_completeness : Option ℕ
    strong_completeness =
        least_tick (from_on (λ t. each (is_correct S) (λ q. each (is_crashed S) (λ p. suspected q p t))))

    -- for every crashed process there is a correct one that suspects it from t
    abbrev pub weak_completeness : Option ℕ
    weak_completeness =
        least_tick (λ t. each (is_crashed S) (λ p. some (is_correct S) (λ q. from_on (suspected q p) t)))

    -- at no tick does a process that hasn't crashed yet suspect one that hasn't crashed yet
    abbrev pub strong_accuracy : Bool
    strong_accuracy = always (λ t. each (λ q. is_up S q t) (λ q. each (λ p. is_up S p t) (λ p. not (suspected q p t))))

    -- some correct process is never suspected by a process that hasn't crashed yet
    abbrev pub weak_accuracy : Bool
    weak_accuracy = some (is_correct S) (λ p. always (λ t. each (λ q. is_up S q t) (λ q. not (suspected q p t))))

    -- from t, no correct process suspects a correct one
    abbrev pub eventual_strong_accuracy : Option ℕ
    eventual_strong_accuracy =
        least_tick (from_on (λ t. each (is_correct S) (λ q. each (is_correct S) (λ p. not (suspected q p t)))))

    -- some correct process isn't suspected from t by any correct one
    abbrev pub eventual_weak_accuracy : Option ℕ
    eventual_weak_accuracy =
        least_tick (λ t. some (is_correct S) (λ p. from_on (λ u. each (is_correct S) (λ q. not (suspected q p u))) t))

    abbrev pub verdicts : Verdicts
    verdicts = record {
      strong_completeness = strong_completeness;
      weak_completeness = weak_completeness;
      strong_accuracy = strong_accuracy;
      weak_accuracy = weak_accuracy;
      eventual_strong_accuracy = eventual_strong_accuracy;
      eventual_weak_accuracy = eventual_weak_accuracy;
    }

-- ---- the verdicts in the words of quantifiers

-- the least tick below an end at which a fact holds, if there is one
abbrev pub IsLeastTick : (ℕ → Type 0) → (end : ℕ) → Option ℕ → Type 0
IsLeastTick P end None = (t : ℕ) → t < end → ¬ (P t)
IsLeastTick P end (Some t) = (t < end) × P t × ((u : ℕ) → u < end → P u → t ≤ u)

module _ (S : Record) where
  abbrev pub IsProcess : ℕ → Type 0
  IsProcess p = (1 ≤ p) × (p ≤ S.processes)

  abbrev pub IsCrashed : ℕ → Type 0
  IsCrashed p = IsProcess p × (crash_tick S p < S.horizon)

  abbrev pub IsCorrect : ℕ → Type 0
  IsCorrect p = IsProcess p × (S.horizon ≤ crash_tick S p)

  -- it hasn't crashed yet
  abbrev pub IsUp : ℕ → ℕ → Type 0
  IsUp t p = IsProcess p × (t < crash_tick S p)

  -- at all ticks from t to the horizon
  abbrev pub From : (ℕ → Type 0) → ℕ → Type 0
  From P t = (u : ℕ) → t ≤ u → u < S.horizon → P u

  module _ (trace : List EntryRecord) (layer : ℕ) where
    abbrev pub Suspects : (q p t : ℕ) → Type 0
    Suspects q p t = out layer trace q t p ≡ true

    pub record AreVerdicts (v : Verdicts) : Type 0 where
      -- from t, every correct process suspects every crashed one
      pub strong_completeness : IsLeastTick
          (From (λ t. (q : ℕ) → IsCorrect q → (p : ℕ) → IsCrashed p → Suspects q p t))
          S.horizon v.strong_completeness
      -- for every crashed process there is a correct one that suspects it from t
      pub weak_completeness : IsLeastTick
          (λ t. (p : ℕ) → IsCrashed p → (q : ℕ) × IsCorrect q × From (Suspects q p) t)
          S.horizon v.weak_completeness
      -- at no tick does a process that hasn't crashed yet suspect one that hasn't crashed yet
      pub strong_accuracy : Decides v.strong_accuracy
          ((t : ℕ) → t < S.horizon → (q : ℕ) → IsUp t q → (p : ℕ) → IsUp t p → ¬ (Suspects q p t))
      -- some correct process is never suspected by a process that hasn't crashed yet
      pub weak_accuracy : Decides v.weak_accuracy
          ((p : ℕ) × IsCorrect p × ((t : ℕ) → t < S.horizon → (q : ℕ) → IsUp t q → ¬ (Suspects q p t)))
      -- from t, no correct process suspects a correct one
      pub eventual_strong_accuracy : IsLeastTick
          (From (λ t. (q : ℕ) → IsCorrect q → (p : ℕ) → IsCorrect p → ¬ (Suspects q p t)))
          S.horizon v.eventual_strong_accuracy
      -- some correct process isn't suspected from t by any correct one
      pub eventual_weak_accuracy : IsLeastTick
          (λ t. (p : ℕ) × IsCorrect p × From (λ u. (q : ℕ) → IsCorrect q → ¬ (Suspects q p u)) t)
          S.horizon v.eventual_weak_accuracy

-- ---- what the tracks of a judge at the horizon tell

-- of pairs of which what is kept goes on so, and is seen as a track
module _ {K : Type 0} (passed : (until : ℕ) → (suspected : Bool) → (end : ℕ) → K → K) (seen : K → Track) (fresh : K)
    (pairs : Pairs K) where
  -- observer i + 1 and subject j + 1
  abbrev pub pair : (i j : ℕ) → Pair K
  pair i j = get_or pairs.pairs.items (i * pairs.processes + j) (opened 0 fresh)

  -- their track, as all ticks below the horizon are behind
  abbrev pub place : (i j : ℕ) → Track
  place i j = seen (kept_at passed pairs.horizon (pair i j))

  -- whether process i + 1 is correct: it isn't crashed below the horizon
  abbrev pub counts_as_correct : ℕ → Bool
  counts_as_correct i = (pair i i).end == pairs.horizon

  abbrev pub row_suspected : ℕ → Option ℕ
  row_suspected i =
      latest_below (λ j. if not (counts_as_correct j) then suspected_from (place i j) else Some 0) pairs.processes

  abbrev pub column_suspected : ℕ → Option ℕ
  column_suspected j =
      earliest_below (λ i. if counts_as_correct i then suspected_from (place i j) else None) pairs.processes

  abbrev pub row_trusted : ℕ → Option ℕ
  row_trusted i = latest_below (λ j. if counts_as_correct j then trusted_from (place i j) else Some 0) pairs.processes

  abbrev pub column_trusted : ℕ → Option ℕ
  column_trusted j =
      latest_below (λ i. if counts_as_correct i then trusted_from (place i j) else Some 0) pairs.processes

  abbrev pub row_right : ℕ → Bool
  row_right i = all_below (λ j. not (place i j).mistaken) pairs.processes

  abbrev pub column_right : ℕ → Bool
  column_right j = all_below (λ i. not (place i j).mistaken) pairs.processes

  abbrev pub grid_verdicts : Verdicts
  grid_verdicts = record {
    strong_completeness = latest_below (λ i. if counts_as_correct i then row_suspected i else Some 0) pairs.processes;
    weak_completeness =
        latest_below (λ j. if not (counts_as_correct j) then column_suspected j else Some 0) pairs.processes;
    strong_accuracy = all_below row_right pairs.processes;
    weak_accuracy = any_below (λ j. counts_as_correct j && column_right j) pairs.processes;
    eventual_strong_accuracy =
        latest_below (λ i. if counts_as_correct i then row_trusted i else Some 0) pairs.processes;
    eventual_weak_accuracy =
        earliest_below (λ j. if counts_as_correct j then column_trusted j else None) pairs.processes;
  }
