use Rattle.windows.proofs.Agendas.{are_inside}
use Rattle.windows.proofs.agenda.Agenda.join.Goals as goal

pub settle-requires : goal.settle-requires
settle-requires g c = are_inside _ _ c.deref_mut-inner.ensures.value c.self.invariant
