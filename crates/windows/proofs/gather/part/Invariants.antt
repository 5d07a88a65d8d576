use Rattle.windows.proofs.Words.{◌++◌, All, IsPermutation, NoneBelow}
use Rattle.windows.proofs.gather.part.Given as goal

abbrev pub invariant-loop-berth : goal.invariant-loop-berth
invariant-loop-berth g l =
    (goal.iterator-loop-berth g).can_next l.berth-iterator ×
    (goal.iterator-loop-berth g).is_finite l.berth-iterator ×
    IsPermutation l.yielded (l.waiting.items ++ l.idle.items)
    × All (λ b. NoneBelow l.end b.pending → ⊥) l.waiting.items
    × All (λ b. NoneBelow l.end b.pending) l.idle.items
