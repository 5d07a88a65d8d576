use Rattle.std.proofs.Common.{[], ◌≡◌, All}
use Rattle.trace_merge.proofs.pieces.Merging.keep_rooms.Given as goal

abbrev pub invariant-loop-lane : goal.invariant-loop-lane
invariant-loop-lane l = All (λ room. room.items ≡ []) l.initial.rooms.items → All (λ room. room.items ≡ []) l.rooms.items

abbrev pub decreases-loop-lane : goal.decreases-loop-lane
decreases-loop-lane l = goal.left-loop-lane l
