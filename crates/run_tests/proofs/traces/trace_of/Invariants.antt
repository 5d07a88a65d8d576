use Rattle.{std.specs.Bool.{IsTrue}, process_api.specs.Order.{is_rising}}
use Rattle.run_tests.proofs.traces.trace_of.Given as goal

abbrev pub invariant-loop-row : goal.invariant-loop-row
invariant-loop-row g l = IsTrue (is_rising l.entries.items)
