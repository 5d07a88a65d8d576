use Rattle.reporting.proofs.Words.{◌≡◌, ◌++◌, closed_rows}
use Rattle.reporting.proofs.layer_pairs.close_rows.Given as goal

abbrev pub invariant-loop-row : goal.invariant-loop-row
invariant-loop-row l = l.rows.items ≡ l.fn.rows.items ++ closed_rows l.pairs l.row
