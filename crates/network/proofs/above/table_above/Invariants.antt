use Rattle.network.proofs.Basics.{take, All, AreAllWithin}
use Rattle.network.proofs.above.table_above.Given as goal

abbrev pub invariant-loop-i : goal.invariant-loop-i
invariant-loop-i g l = All (λ t. AreAllWithin l.n (g.T.NamesGroups.groups t)) (take l.i l.tables)
