use Rattle.windows.proofs.Words.{map, take, IsNextStart}
use Rattle.windows.proofs.stage.next_start.Given as goal

abbrev pub invariant-loop-berth : goal.invariant-loop-berth
invariant-loop-berth g l = IsNextStart l.fn.horizon (map (λ b. b.pending) (take l.berth-index l.fn.berths)) l.next
