use Rattle.windows.proofs.{Words.{sym, subst, AreOne, in_box}, Agendas.{are_inside}}
use Rattle.windows.proofs.agenda.Agenda.deliver.Goals as goal

pub settle-requires : goal.settle-requires
settle-requires g c = are_inside _ _ c.deref_mut-inner.ensures.value c.self.invariant

pub invariant_of-self-2 : goal.invariant_of-self-2
invariant_of-self-2 g c = (c.in_ok-settle.ensures.inner.0, subst (λ o. AreOne (in_box o)) (sym c.replace.ensures.after) c.requires)
