use Rattle.drawing.proofs.Words.{others, AreRowsOf}
use Rattle.drawing.proofs.groups.Run.push_group.Given as goal

-- the other processes so far
abbrev pub invariant-loop-before : goal.invariant-loop-before
invariant-loop-before l = AreRowsOf l.self l.told.pid (others l.before l.told.pid) l.rows
