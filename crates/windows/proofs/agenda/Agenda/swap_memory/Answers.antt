use Rattle.windows.proofs.{Words.{subst, Has}, Agendas.{are_inside}}
use Rattle.windows.proofs.agenda.Agenda.swap_memory.Goals as goal

pub invariant_of-self : goal.invariant_of-self
invariant_of-self c =
    let h = are_inside _ _ c.deref_mut.ensures.value c.self.invariant in
    (record { below = λ k y there. h.0.below k y (subst (λ m. Has m k y) c.swap_empty.ensures.0 there); from = h.0.from; next = h.0.next }, h.1)

pub invariant_of-other : goal.invariant_of-other
invariant_of-other c =
    let h = are_inside _ _ c.deref_mut-2.ensures.value c.other.invariant in
    (record { below = λ k y there. h.0.below k y (subst (λ m. Has m k y) c.swap_empty.ensures.1 there); from = h.0.from; next = h.0.next }, h.1)
