use Rattle.study.proofs.Basics.{◌≡◌, ◌++◌, map, take, view}
use Rattle.study.proofs.laid_tables.push_rows.Given as goal

abbrev pub invariant-loop-row : goal.invariant-loop-row
invariant-loop-row g l =
    map view l.values.items ≡ map view l.initial.values.items ++ map g.R.Row.said (take l.row-index l.rows)
