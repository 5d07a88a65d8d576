use Rattle.network.proofs.Basics.{◌≡◌, filter, take, range_with_len, holds}
use Rattle.network.proofs.group.members_among.Given as goal

-- those so far
abbrev pub invariant-loop-before : goal.invariant-loop-before
invariant-loop-before l = l.members.items ≡ filter (holds l.group) (take l.before (range_with_len 1 l.n))
