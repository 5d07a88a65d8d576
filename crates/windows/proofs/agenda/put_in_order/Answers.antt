use Rattle.windows.proofs.Words.{sym, subst, in_box, AreOne}
use Rattle.windows.proofs.agenda.put_in_order.Goals as goal

pub part-requires : goal.part-requires
part-requires g c = subst (λ box. AreOne (in_box box)) (sym c.take.ensures.value) c.requires.1
