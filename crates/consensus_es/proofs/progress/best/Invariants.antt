use Rattle.consensus_es.proofs.Words.{◌≡◌, best_to, by_sender}
use Rattle.consensus_es.proofs.progress.best.Given as goal

abbrev pub invariant-loop-before : goal.invariant-loop-before
invariant-loop-before l = l.chosen ≡ best_to l.before (by_sender l.estimates l.fn.round)
