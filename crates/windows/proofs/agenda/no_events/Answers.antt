use Rattle.windows.proofs.Words.{◌∙◌, ap, sym, subst, key_cmp, Has, not_None, AreFrom, first_tick}
use Rattle.std.specs.FinMap as events
use Rattle.windows.proofs.agenda.no_events.Goals as goal

pub returns-clause-lists : goal.returns-clause-lists
returns-clause-lists c = record {
  below = λ k y there. absurd (not_None y (sym (events.get-empty key_cmp k) ∙ subst (λ m. Has m k y) c.new.ensures there));
  from = subst (AreFrom 0) (sym c.new-2.ensures.items) tt;
  next = ap first_tick (sym c.new-2.ensures.items);
}
