use Rattle.std.proofs.Common.{◌≡◌}
use Rattle.std.specs.List.{All}
use Rattle.run_tests.proofs.deque_tests.first_of_seven.Given as goal

abbrev pub invariant-loop : goal.invariant-loop
invariant-loop g l = All (λ h. h.deques ≡ l.fn.fronts.items) l.hands.items
