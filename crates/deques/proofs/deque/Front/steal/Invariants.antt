use Rattle.std.proofs.Common.{◌≡◌}
use Rattle.deques.proofs.deque.Front.steal.Given as goal

abbrev pub invariant-loop : goal.invariant-loop
invariant-loop g l = l.permit ≡ l.initial.permit
