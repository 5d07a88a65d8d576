use Rattle.sweep.proofs.Words.{◌*◌, ◌^◌, take, ArePairSums, ArePairsWithin}
use Rattle.sweep.proofs.pairs.sum_pairs.Given as goal

abbrev pub invariant-loop-pair : goal.invariant-loop-pair
invariant-loop-pair l = record {
  sums : ArePairSums (take l.pair-index l.pairs) l.sums;
  within : ArePairsWithin (l.pair-index * 2 ^ 64) l.sums;
}
