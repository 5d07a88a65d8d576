use Rattle.sweep.proofs.Words.{[], take, AllZip, AreSums}
use Rattle.sweep.proofs.unit_sums.UnitSums.new.Given as goal

abbrev pub invariant-loop-group : goal.invariant-loop-group
invariant-loop-group l = AllZip (λ group s. AreSums group l.first [] s) (take l._group-index l.groups) l.sums.items
