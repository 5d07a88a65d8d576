use Rattle.judges.proofs.Words.{◌≡◌, [], outcomes}
use Rattle.judges.proofs.outcomes.RunningOutcomes.open.Given as goal

abbrev pub invariant-loop-before : goal.invariant-loop-before
invariant-loop-before l = l.outcomes.items ≡ outcomes [] l.before
