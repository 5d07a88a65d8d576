use Rattle.reporting.proofs.Words.{◌≡◌, length, AreCaught, lists_in}
use Rattle.reporting.proofs.durations.catch_up.Given as goal

abbrev pub invariant-loop-place : goal.invariant-loop-place
invariant-loop-place l = record {
  same : length l.pairs ≡ length l.fn.pairs;
  caught : AreCaught l.counts l.closed l.from l.place (lists_in l.fn.pairs) (lists_in l.pairs);
}
