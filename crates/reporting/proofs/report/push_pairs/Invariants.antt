use Rattle.reporting.proofs.Words.{◌≡◌, ◌++◌, take, flat_map, pair_text, IsBetweenRows, text_of}
use Rattle.reporting.proofs.report.push_pairs.Given as goal

-- the rows so far
abbrev pub invariant-loop-pair : goal.invariant-loop-pair
invariant-loop-pair l = record {
  between : IsBetweenRows l.rows;
  text : text_of l.rows ≡ text_of l.initial.rows ++ flat_map pair_text (take l.pair-index l.measures);
}
