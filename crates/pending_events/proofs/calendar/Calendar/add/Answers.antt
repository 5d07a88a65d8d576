use Rattle.pending_events.proofs.{Words.{◌≡◌, arith}, Nearby.{all_came, near_put, put_calendar}}
use Rattle.pending_events.proofs.calendar.Calendar.add.Goals as goal

pub returns-then-tick-self-clause-calendar : goal.returns-then-tick-self-clause-calendar
returns-then-tick-self-clause-calendar c =
    let f = c.args.self.now in
    let r = c.requires in
    put_calendar f r.calendar c.args.tick r.from _ c.put_near.new.ring f.map (omega arith) (all_came (λ e. e.0.tick ≡ c.args.tick) c.put_near.result c.args.event r.tick) c.put_near.ensures.long r.calendar.full
    (near_put f r.calendar c.args.tick r.from _ c.put_near.new.ring c.if-tick-self.true c.put_near.ensures.put)
