-- Sums of sums. They stay at the greatest number of their types, should they reach it.
use Rattle.std.specs.{Prelude.{ℕ, ◌+◌, ◌-◌, ◌^◌, min, ◌==◌, ◌||◌, Bool, true, false, not, nat_lt, Option, None, Some, if◌then◌else◌, is_none, is_some, ◌≡◌, ◌≢◌, ◌*◌, ◌≤◌, ◌&&◌, List, length}, List.{list_all, sum_by}}
use Rattle.{scenario_record.specs.Record.{Record}, judges.specs.{Out.{end_of}, declared.{outcomes.Outcome.{Outcome}, verdicts.Verdicts.{Verdicts}}}}
use Rattle.reporting.specs.declared.{pair_measures.PairMeasures.{PairMeasures}, summary.Summary.{Summary}}
use Rattle.sweep.specs.{OneRun.{detection_ticks, is_undetected, is_at_once, has_decided, decision_tick, do_disagree}, Percentile.{greater}, Columns.{ArePairSums}, Fitting.{ArePairsWithin}}
use Rattle.sweep.specs.declared.columns.{DecisionSums.{DecisionSums}, DetectionBounds.{DetectionBounds}, FirstRuns.{FirstRuns}, LayerSums.{LayerSums}, PairSums.{PairSums}, RunCounts.{RunCounts}, TraceSums.{TraceSums}, VerdictCounts.{VerdictCounts}}

-- of 128 bits, and of 64
abbrev pub plus : ℕ → ℕ → ℕ
plus a b = min (a + b) (2 ^ 128 - 1)

abbrev pub plus_few : ℕ → ℕ → ℕ
plus_few a b = min (a + b) (2 ^ 64 - 1)

abbrev pub traces_plus : TraceSums → TraceSums → TraceSums
traces_plus a b = record { entries = plus a.entries b.entries; sent = plus a.sent b.sent; lost = plus a.lost b.lost }

abbrev pub pairs_plus : PairSums → PairSums → PairSums
pairs_plus a b = record {
  mistakes = plus a.mistakes b.mistakes;
  mistake_ticks = plus a.mistake_ticks b.mistake_ticks;
  recurrence_sum = plus a.recurrence_sum b.recurrence_sum;
  recurrence_count = plus a.recurrence_count b.recurrence_count;
  duration_sum = plus a.duration_sum b.duration_sum;
  duration_count = plus a.duration_count b.duration_count;
  good_sum = plus a.good_sum b.good_sum;
  good_count = plus a.good_count b.good_count;
  undetected = plus a.undetected b.undetected;
  at_once = plus a.at_once b.at_once;
  detection_sum = plus a.detection_sum b.detection_sum;
}

abbrev pub verdicts_plus : VerdictCounts → VerdictCounts → VerdictCounts
verdicts_plus a b = record {
  strong_completeness = plus_few a.strong_completeness b.strong_completeness;
  weak_completeness = plus_few a.weak_completeness b.weak_completeness;
  strong_accuracy = plus_few a.strong_accuracy b.strong_accuracy;
  weak_accuracy = plus_few a.weak_accuracy b.weak_accuracy;
  eventual_strong_accuracy = plus_few a.eventual_strong_accuracy b.eventual_strong_accuracy;
  eventual_weak_accuracy = plus_few a.eventual_weak_accuracy b.eventual_weak_accuracy;
}

abbrev pub decisions_plus : DecisionSums → DecisionSums → DecisionSums
decisions_plus a b = record {
  to_decide = plus a.to_decide b.to_decide;
  decided = plus a.decided b.decided;
  decision_tick_sum = plus a.decision_tick_sum b.decision_tick_sum;
  decision_tick_max = greater a.decision_tick_max b.decision_tick_max;
}

abbrev pub bounds_plus : DetectionBounds → DetectionBounds → DetectionBounds
bounds_plus a b = record { greatest = greater a.greatest b.greatest; is_late = a.is_late || b.is_late }

abbrev pub counts_plus : RunCounts → RunCounts → RunCounts
counts_plus a b = record {
  with_mistakes = plus_few a.with_mistakes b.with_mistakes;
  all_decided = plus_few a.all_decided b.all_decided;
  undecided = plus_few a.undecided b.undecided;
  disagreements = plus_few a.disagreements b.disagreements;
}

abbrev pub layer_plus : LayerSums → LayerSums → LayerSums
layer_plus a b = record {
  runs = plus_few a.runs b.runs;
  limited = plus_few a.limited b.limited;
  traces = traces_plus a.traces b.traces;
  pair_ticks = plus a.pair_ticks b.pair_ticks;
  pairs = pairs_plus a.pairs b.pairs;
  mistakes_squared_sum = plus a.mistakes_squared_sum b.mistakes_squared_sum;
  verdicts = verdicts_plus a.verdicts b.verdicts;
  bounds = bounds_plus a.bounds b.bounds;
  decisions = decisions_plus a.decisions b.decisions;
  counts = counts_plus a.counts b.counts;
}

abbrev pub of_pair : PairMeasures → PairSums
of_pair m = record {
  mistakes = m.mistakes;
  mistake_ticks = m.mistake_ticks;
  recurrence_sum = m.recurrence_sum;
  recurrence_count = m.recurrence_count;
  duration_sum = m.duration_sum;
  duration_count = m.duration_count;
  good_sum = m.good_sum;
  good_count = m.good_count;
  undetected = if is_undetected m.detection then 1 else 0;
  at_once = if is_at_once m.detection then 1 else 0;
  detection_sum = detection_ticks m.detection;
}

abbrev pub of_bound : Option ℕ → DetectionBounds
of_bound bound = record { greatest = bound; is_late = is_none bound }

abbrev pub of_verdicts : Verdicts → VerdictCounts
of_verdicts v = record {
  strong_completeness = if is_some v.strong_completeness then 1 else 0;
  weak_completeness = if is_some v.weak_completeness then 1 else 0;
  strong_accuracy = if v.strong_accuracy then 1 else 0;
  weak_accuracy = if v.weak_accuracy then 1 else 0;
  eventual_strong_accuracy = if is_some v.eventual_strong_accuracy then 1 else 0;
  eventual_weak_accuracy = if is_some v.eventual_weak_accuracy then 1 else 0;
}

abbrev pub tick_or_zero : Option ℕ → ℕ
tick_or_zero None = 0
tick_or_zero (Some t) = t

abbrev pub of_outcome : Outcome → DecisionSums
of_outcome o = record {
  to_decide = 1;
  decided = if has_decided o then 1 else 0;
  decision_tick_sum = tick_or_zero (decision_tick o);
  decision_tick_max = decision_tick o;
}

-- whether two values are there that differ
abbrev pub differ : Option ℕ → Option ℕ → Bool
differ (Some v) (Some w) = not (v == w)
differ _ _ = false

-- the number that was found before, or else this one, where it is found
abbrev pub first_of : Option ℕ → Bool → (number : ℕ) → Option ℕ
first_of (Some before) found number = Some before
first_of None found number = if found then Some number else None

-- whether a value is greater than another, where none is less than any
abbrev pub is_above : Option ℕ → Option ℕ → Bool
is_above None b = false
is_above (Some a) None = true
is_above (Some a) (Some b) = nat_lt b a

-- with one more run of this number, alone counted so
abbrev pub first_with : FirstRuns → (number : ℕ) → RunCounts → (is_longest : Bool) → FirstRuns
first_with f number counts is_longest = record {
  mistake = first_of f.mistake (nat_lt 0 counts.with_mistakes) number;
  detection_max = if is_longest then Some number else f.detection_max;
  disagreement = first_of f.disagreement (nat_lt 0 counts.disagreements) number;
}

-- two processes of a scenario
pub record IsPair (S : Record) (q p : ℕ) : Type 0 where
  pub different : q ≢ p
  pub observer : q ≤ S.processes
  pub subject : p ≤ S.processes

-- the counts of a run of which these were the pairs that count, these the decisions and the outcomes of the processes
-- that are to decide, and these the outcomes of all
pub record AreOwnCounts (pairs : PairSums) (decisions : DecisionSums) (deciding all : List Outcome) (c : RunCounts)
    : Type 0 where
  pub with_mistakes : c.with_mistakes ≡ (if nat_lt 0 pairs.mistakes then 1 else 0)
  pub all_decided : c.all_decided ≡ (if nat_lt 0 decisions.to_decide && list_all has_decided deciding then 1 else 0)
  pub undecided : c.undecided ≡ (if not (list_all has_decided deciding) then 1 else 0)
  pub disagreements : c.disagreements ≡ (if do_disagree all then 1 else 0)

pub record AreOwnSums (S : Record) (summary : Summary) (found : Verdicts) (counted : List PairMeasures)
    (its : DetectionBounds) (deciding : List Outcome) (decided : DecisionSums) (sums : LayerSums) : Type 0 where
  pub runs : sums.runs ≡ 1
  pub limited : sums.limited ≡ 0
  pub traces : sums.traces ≡ record { entries = summary.entries; sent = summary.sent; lost = summary.lost }
  pub pair_ticks : sums.pair_ticks ≡ sum_by (λ m. end_of S m.observer m.subject) counted
  pub pair_ticks_high : sums.pair_ticks ≤ length counted * 2 ^ 32
  pub pairs : ArePairSums counted sums.pairs
  pub pairs_high : ArePairsWithin (length counted * 2 ^ 64) sums.pairs
  pub squared : sums.mistakes_squared_sum ≡ min (sums.pairs.mistakes * sums.pairs.mistakes) (2 ^ 128 - 1)
  pub verdicts : sums.verdicts ≡ of_verdicts found
  pub bounds : sums.bounds ≡ its
  pub decisions : sums.decisions ≡ decided
  pub counts : AreOwnCounts sums.pairs decided deciding summary.outcomes.items sums.counts
