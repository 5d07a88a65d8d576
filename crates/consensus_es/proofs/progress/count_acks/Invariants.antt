use Rattle.consensus_es.proofs.Words.{◌≡◌, ◌≤◌, by_sender, acks_of}
use Rattle.consensus_es.proofs.progress.count_acks.Given as goal

abbrev pub invariant-loop-before : goal.invariant-loop-before
invariant-loop-before l = record {
  value : l.count ≡ acks_of l.before (by_sender l.fn.replies l.fn.round);
  low : l.count ≤ l.before;
}
