use Rattle.windows.proofs.{Words.{ap, not, sym, ◌∙◌, is_some}, Agendas.{none_same}}
use Rattle.windows.proofs.agenda.swap_empty.Goals as goal

pub returns-then-is_none : goal.returns-then-is_none
returns-then-is_none c =
    let same = none_same _ _ _ _ c.least_tick.ensures c.least_tick-2.ensures (ap is_some (sym c.earlier.ensures) ∙ (c.is_none.ensures ∙ ap not c.if-is_none.true)) in
    (c.swap.ensures.x_after ∙ sym same, c.swap.ensures.y_after ∙ same)
