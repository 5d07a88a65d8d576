use Rattle.std.proofs.Common.{rules, ◌≡◌, sym, subst}
use Rattle.machines.proofs.machine.MachineProcess.on_input.Goals as goal

pub returns-in-Strong-clause-allowed : goal.returns-in-Strong-clause-allowed
returns-in-Strong-clause-allowed c =
    rw c.in-Strong.is (rw (sym c.deref_mut-in-Strong.ensures.value) c.on_input-in-Strong.ensures.allowed)
