use Rattle.{std.proofs.Common.{IsTrue}, process_api.specs.Mind.{stands_at}, scenario_record.specs.Opening.{place_of}}
use Rattle.base_tests.proofs.driving.drive_algorithm.Given as goal

abbrev pub invariant-loop-tick : goal.invariant-loop-tick
invariant-loop-tick g l = IsTrue (stands_at (place_of l.opening) (g.A.Algorithm.state l.machine))
