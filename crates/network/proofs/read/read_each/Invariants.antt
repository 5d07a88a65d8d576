use Rattle.network.proofs.Basics.{take, AllZip, filter_map, as_table, view}
use Rattle.network.proofs.read.read_each.Given as goal

abbrev pub invariant-loop-value : goal.invariant-loop-value
invariant-loop-value g l = AllZip g.T.OfTable.says (filter_map (λ v. as_table (view v)) (take l.value-index l.values)) l.found.items
