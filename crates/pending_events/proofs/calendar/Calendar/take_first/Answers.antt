use Rattle.pending_events.proofs.Nearby.{next_calendar}
use Rattle.pending_events.proofs.calendar.Calendar.take_first.Goals as goal

pub returns-clause-calendar : goal.returns-clause-calendar
returns-clause-calendar c =
    let near = c.take_near-near in
    let listed = c.take_listed-listed in
    next_calendar c.args.self.now c.requires c.in_ok-tick.tick c.in_ok-tick.ensures near.new.ring near.ensures.cleared listed.new.map listed.ensures.cleared _ c.min-self.ensures near.ensures.long (listed.ensures.full c.requires.full)
