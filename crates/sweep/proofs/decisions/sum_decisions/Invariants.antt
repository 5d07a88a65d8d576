use Rattle.sweep.proofs.Words.{◌*◌, ◌^◌, take, AreDecisionSums, AreDecisionsWithin}
use Rattle.sweep.proofs.decisions.sum_decisions.Given as goal

abbrev pub invariant-loop-outcome : goal.invariant-loop-outcome
invariant-loop-outcome l = record {
  sums : AreDecisionSums (take l.outcome-index l.outcomes) l.sums;
  within : AreDecisionsWithin (l.outcome-index * 2 ^ 64) l.sums;
}
