use Rattle.sweep.proofs.Words.{◌≡◌, ◌≤◌, ◌*◌, ◌^◌, take, sum_by, end_of}
use Rattle.sweep.proofs.pairs.sum_ends.Given as goal

abbrev pub invariant-loop-pair : goal.invariant-loop-pair
invariant-loop-pair l = record {
  value : l.ticks ≡ sum_by (λ m. end_of l.scenario m.observer m.subject) (take l.pair-index l.pairs);
  within : l.ticks ≤ l.pair-index * 2 ^ 32;
}
