use Rattle.std.proofs.Common.{◌≡◌, map}
use Rattle.{process_api.specs.Place.{numbers_to}, scenario_record.specs.Record.{opening_mind}}
use Rattle.machines.specs.contracts.machine.MachineProcess.TheImpl as machine
use Rattle.machines.proofs.machine.machines_of.Given as goal

-- the machines so far open as the scenario says
abbrev pub invariant-loop-before : goal.invariant-loop-before
invariant-loop-before l = map machine.mind-value.it l.machines.items ≡ map (opening_mind l.fn.scenario) (numbers_to l.before)
