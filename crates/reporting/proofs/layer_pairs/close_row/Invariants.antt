use Rattle.reporting.proofs.Words.{◌≡◌, ◌-◌, suc, ◌++◌, map, others, closed, metered}
use Rattle.reporting.proofs.layer_pairs.close_row.Given as goal

abbrev pub invariant-loop-column : goal.invariant-loop-column
invariant-loop-column l = l.rows.items ≡ l.fn.rows.items ++ map (λ p. closed (metered l.pairs l.row (p - 1))) (others l.column (suc l.row))
