use Rattle.diagnosis.proofs.Likenesses.{IsSoFar}
use Rattle.diagnosis.proofs.keys.most_alike.Given as goal

abbrev pub invariant-loop-field : goal.invariant-loop-field
invariant-loop-field l = IsSoFar l.fields l.field-index l.key l.best l.least
