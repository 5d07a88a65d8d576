use Rattle.network.proofs.Basics.{take, All, filter_map, as_table, view, IsTableOf}
use Rattle.network.proofs.check.check_each.Given as goal

abbrev pub invariant-loop-i : goal.invariant-loop-i
invariant-loop-i l = All (IsTableOf l.kind) (filter_map (λ v. as_table (view v)) (take l.i l.tables))
