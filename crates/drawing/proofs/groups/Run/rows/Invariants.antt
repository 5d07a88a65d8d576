use Rattle.drawing.specs.Inside.Drawn.{AreRows}
use Rattle.drawing.proofs.groups.Run.rows.Given as goal

-- the processes so far
abbrev pub invariant-loop-outcome : goal.invariant-loop-outcome
invariant-loop-outcome l = AreRows l.self l.outcome-index l.rows
