use Rattle.consensus_es.proofs.{Words.{◌+◌, cond, waits_left, state_of}, Settling.{Going}}
use Rattle.std.specs.FinSet as set
use Rattle.consensus_es.proofs.progress.Progress.settle.Given as goal

abbrev pub invariant-loop-more : goal.invariant-loop-more
invariant-loop-more l = Going l.fn.membership.processes l.fn.membership.own (set.contains l.fn.suspects) l.fn.self l.self l.fn.out.items l.out.items l.more

abbrev pub decreases-loop-more : goal.decreases-loop-more
decreases-loop-more l = waits_left l.fn.membership.processes l.fn.membership.own (state_of l.self) + cond l.more 1 0
