use Rattle.std.proofs.Common.{◌≡◌}
use Rattle.run_tests.proofs.deque_tests.take_all.Given as goal

abbrev pub invariant-loop : goal.invariant-loop
invariant-loop g l = l.hand.deques ≡ l.initial.hand.deques
