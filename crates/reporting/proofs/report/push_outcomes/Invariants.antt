use Rattle.reporting.proofs.Words.{◌≡◌, ◌++◌, take, flat_map, decision_text, IsBetweenRows, text_of}
use Rattle.reporting.proofs.report.push_outcomes.Given as goal

-- the rows so far
abbrev pub invariant-loop-outcome : goal.invariant-loop-outcome
invariant-loop-outcome l = record {
  between : IsBetweenRows l.rows;
  text : text_of l.rows ≡ text_of l.initial.rows ++ flat_map decision_text (take l.outcome-index l.outcomes);
}
