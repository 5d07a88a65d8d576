use Rattle.pending_events.proofs.Words.{NoneAhead}
use Rattle.pending_events.proofs.calendar.first_filled.Given as goal

abbrev pub invariant-loop-tick : goal.invariant-loop-tick
invariant-loop-tick l = NoneAhead l.ring l.from l.tick
