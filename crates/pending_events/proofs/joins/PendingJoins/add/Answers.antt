use Rattle.pending_events.proofs.Words.{ap, sym, ◌∙◌, joined_one}
use Rattle.std.specs.FinMap as events
use Rattle.pending_events.proofs.joins.PendingJoins.add.Goals as goal

pub returns-clause-grown : goal.returns-clause-grown
returns-clause-grown c = λ first before had. c.in_ok-join.ensures.ok ∙ (ap (λ m. events.insert m c.args.event.0 c.args.event.1) had ∙ sym (joined_one first before c.args.event))
