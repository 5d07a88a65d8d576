use Rattle.pending_events.proofs.Words.{sym, ◌∙◌, joined_one}
use Rattle.std.specs.FinMap as events
use Rattle.trace_laws.specs.Taken.{event_of}
use Rattle.pending_events.proofs.joins.PendingJoins.send.Goals as goal

pub returns-clause-grown : goal.returns-clause-grown
returns-clause-grown c = λ first before had.
    c.in_ok-join.ensures.ok ∙ ((λ i. events.insert (had i) (c.in_ok-letter.ensures.event i).0 (c.in_ok-letter.ensures.event i).1) ∙ sym (joined_one first before (event_of (record { key = c.args.key; payload = c.args.payload.now }))))
