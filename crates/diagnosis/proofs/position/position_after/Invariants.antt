use Rattle.diagnosis.proofs.Positions.{IsCounted}
use Rattle.diagnosis.proofs.position.position_after.Given as goal

abbrev pub invariant-loop-byte : goal.invariant-loop-byte
invariant-loop-byte l = IsCounted l.before l.byte-index l.line l.column
