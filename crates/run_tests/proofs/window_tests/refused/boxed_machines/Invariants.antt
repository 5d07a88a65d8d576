use Rattle.std.proofs.Common.{◌≡◌, map}
use Rattle.{process_api.specs.Place.{numbers_to}, scenario_record.specs.Record.{opening_mind}}
use Rattle.run_tests.proofs.window_tests.refused.boxed_machines.Given as goal

-- the machines so far open as the scenario says
abbrev pub invariant-loop-before : goal.invariant-loop-before
invariant-loop-before g l = map (λ b. (goal.Process-dyn g (b.vtable, b.value)).mind b.value) l.machines.items ≡ map (opening_mind l.fn.scenario) (numbers_to l.before)
