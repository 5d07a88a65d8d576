use Rattle.windows.proofs.{Words.{◌∙◌, ap, sym, joined}, Letters.{joined_both}}
use Rattle.std.specs.FinMap as events
use Rattle.windows.proofs.agenda.take_events.Goals as goal

pub returns : goal.returns
returns c =
    let later = c.args.later.items in
    ap (joined events.empty) c.in_ok-append.ensures.ok
    ∙ (sym (joined_both events.empty c.in_ok-events.events.items later) ∙ ap (λ m. joined m later) c.in_ok-events.ensures.0)
