use Rattle.sweep.proofs.Words.{◌≡◌, take, top_round}
use Rattle.sweep.proofs.decisions.top_round.Given as goal

abbrev pub invariant-loop-outcome : goal.invariant-loop-outcome
invariant-loop-outcome l = l.top ≡ top_round (take l.outcome-index l.outcomes)
