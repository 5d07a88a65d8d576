-- The columns of a row from the layer on.
use Rattle.std.specs.{Prelude.{ℕ, ◌+◌, ◌-◌, ◌*◌, ◌==◌, Bool, nat_le, nat_lt, if◌then◌else◌, Option, None, Some, List, [], ◌∷◌, ◌++◌, map, codes}, List.{position, range_with_len}}
use Rattle.sweep.specs.{Columns.{detection_bound}, declared.{column_table.Told.{Told, TheVariants.{All, Count, Sum, IfAny}}, columns.{Columns.{Columns}, LayerSums.{LayerSums}}}}

-- ---- the standard error of a sum of the numbers of so many runs, whose squares add up to this

-- whether the square of e, times the runs but one, is at least the runs times the squares less the square of the sum
abbrev pub reaches : (runs sum squares e : ℕ) → Bool
reaches runs sum squares e = nat_le (runs * squares) (e * e * (runs - 1) + sum * sum)

-- the least such number; none of fewer than two runs. One that reaches is runs * squares itself
unfoldable pub standard_error : (runs sum squares : ℕ) → Option ℕ
standard_error runs sum squares =
    if nat_lt runs 2 then None else position (reaches runs sum squares) (range_with_len 0 (runs * squares + 1))

-- that of the mistakes, over the runs that are done
abbrev pub mistakes_error : LayerSums → Option ℕ
mistakes_error s = standard_error (s.runs - s.limited) s.pairs.mistakes s.mistakes_squared_sum

-- ---- the table

-- a column: its name, and what it tells
abbrev pub Column : Type 0
Column = List ℕ × (Columns → Told)

-- those of the runs on a layer, their traces and letters
unfoldable pub columns_of_runs : (layer : ℕ) → List Column
columns_of_runs layer = (codes "layer", λ c. All layer)
    ∷ (codes "runs", λ c. All c.sums.runs)
    ∷ (codes "limited", λ c. All c.sums.limited)
    ∷ (codes "entries", λ c. Sum c.sums.traces.entries)
    ∷ (codes "sent", λ c. Sum c.sums.traces.sent)
    ∷ (codes "lost", λ c. Sum c.sums.traces.lost)
    ∷ []

-- those of the mistakes, and the ticks between them
unfoldable pub columns_of_mistakes : List Column
columns_of_mistakes = (codes "pair_ticks", λ c. Sum c.sums.pair_ticks)
    ∷ (codes "mistakes", λ c. Sum c.sums.pairs.mistakes)
    ∷ (codes "mistake_ticks", λ c. Sum c.sums.pairs.mistake_ticks)
    ∷ (codes "mistake_recurrence", λ c. IfAny c.mistake_recurrence)
    ∷ (codes "mistaken_ppm", λ c. IfAny c.mistaken_ppm)
    ∷ (codes "mistakes_squared_sum", λ c. Sum c.sums.mistakes_squared_sum)
    ∷ (codes "runs_with_mistakes", λ c. Count c.sums.counts.with_mistakes)
    ∷ (codes "mistakes_error", λ c. IfAny (mistakes_error c.sums))
    ∷ (codes "recurrence_sum", λ c. Sum c.sums.pairs.recurrence_sum)
    ∷ (codes "recurrence_count", λ c. Sum c.sums.pairs.recurrence_count)
    ∷ (codes "duration_sum", λ c. Sum c.sums.pairs.duration_sum)
    ∷ (codes "duration_count", λ c. Sum c.sums.pairs.duration_count)
    ∷ (codes "duration_p99", λ c. IfAny c.durations.p99)
    ∷ (codes "duration_max", λ c. IfAny c.durations.greatest)
    ∷ (codes "good_sum", λ c. Sum c.sums.pairs.good_sum)
    ∷ (codes "good_count", λ c. Sum c.sums.pairs.good_count)
    ∷ []

unfoldable pub columns_of_detections : List Column
columns_of_detections = (codes "detections", λ c. Sum c.detections.count)
    ∷ (codes "undetected", λ c. Sum c.sums.pairs.undetected)
    ∷ (codes "at_once", λ c. Sum c.sums.pairs.at_once)
    ∷ (codes "detection_sum", λ c. Sum c.sums.pairs.detection_sum)
    ∷ (codes "detection_p50", λ c. IfAny c.detections.p50)
    ∷ (codes "detection_p90", λ c. IfAny c.detections.p90)
    ∷ (codes "detection_p99", λ c. IfAny c.detections.p99)
    ∷ (codes "detection_max", λ c. IfAny c.detections.greatest)
    ∷ (codes "detection_bound", λ c. IfAny (detection_bound c.sums.bounds))
    ∷ []

-- those of the verdicts and the decisions, and which runs to look at
unfoldable pub columns_of_outcomes : List Column
columns_of_outcomes = (codes "strong_completeness", λ c. Count c.sums.verdicts.strong_completeness)
    ∷ (codes "weak_completeness", λ c. Count c.sums.verdicts.weak_completeness)
    ∷ (codes "strong_accuracy", λ c. Count c.sums.verdicts.strong_accuracy)
    ∷ (codes "weak_accuracy", λ c. Count c.sums.verdicts.weak_accuracy)
    ∷ (codes "eventual_strong_accuracy", λ c. Count c.sums.verdicts.eventual_strong_accuracy)
    ∷ (codes "eventual_weak_accuracy", λ c. Count c.sums.verdicts.eventual_weak_accuracy)
    ∷ (codes "to_decide", λ c. Sum c.sums.decisions.to_decide)
    ∷ (codes "decided", λ c. Sum c.sums.decisions.decided)
    ∷ (codes "decision_tick_sum", λ c. Sum c.sums.decisions.decision_tick_sum)
    ∷ (codes "decision_tick_max", λ c. IfAny c.sums.decisions.decision_tick_max)
    ∷ (codes "all_decided", λ c. Count c.sums.counts.all_decided)
    ∷ (codes "last_decision_p50", λ c. IfAny c.last_decisions.p50)
    ∷ (codes "last_decision_p90", λ c. IfAny c.last_decisions.p90)
    ∷ (codes "last_decision_p99", λ c. IfAny c.last_decisions.p99)
    ∷ (codes "last_decision_max", λ c. IfAny c.last_decisions.greatest)
    ∷ (codes "rounds_p50", λ c. IfAny c.rounds.p50)
    ∷ (codes "rounds_p99", λ c. IfAny c.rounds.p99)
    ∷ (codes "rounds_max", λ c. IfAny c.rounds.greatest)
    ∷ (codes "disagreements", λ c. Count c.sums.counts.disagreements)
    ∷ (codes "mistake_run", λ c. IfAny c.first_runs.mistake)
    ∷ (codes "detection_max_run", λ c. IfAny c.first_runs.detection_max)
    ∷ (codes "disagreement_run", λ c. IfAny c.first_runs.disagreement)
    ∷ []

abbrev pub columns : (layer : ℕ) → List Column
columns layer = columns_of_runs layer ++ columns_of_mistakes ++ columns_of_detections ++ columns_of_outcomes

-- the same on each layer
abbrev pub column_names : List (List ℕ)
column_names = map (λ d. d.0) (columns 1)

-- what is told: of the runs that are done nothing where none is
abbrev pub of_done : Columns → Option ℕ → Option ℕ
of_done c number = if c.sums.limited == c.sums.runs then None else number

abbrev pub number_of : Columns → Told → Option ℕ
number_of c (All number) = Some number
number_of c (Count number) = of_done c (Some number)
number_of c (Sum number) = of_done c (Some number)
number_of c (IfAny number) = of_done c number

abbrev pub numbers_of : (layer : ℕ) → Columns → List (Option ℕ)
numbers_of layer c = map (number_of c) (map (λ d. d.1 c) (columns layer))
