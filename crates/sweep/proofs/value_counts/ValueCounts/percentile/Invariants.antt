use Rattle.sweep.proofs.{Words.{◌≡◌, ◌*◌, ◌-◌, ◌^◌, ◌<◌, ◌++◌, map, min, deref_pair}, Counting.{counted}}
use Rattle.sweep.proofs.value_counts.ValueCounts.percentile.Given as goal

abbrev pub invariant-loop-value : goal.invariant-loop-value
invariant-loop-value l = record {
  can : (goal.iterator-loop-value).can_next l.value-iterator;
  finite : (goal.iterator-loop-value).is_finite l.value-iterator;
  walked : l.self.counts.entries ≡ map deref_pair l.yielded ++ l.value-iterator;
  seen : l.seen ≡ min (counted (map deref_pair l.yielded)) (2 ^ 128 - 1);
  short : 100 * l.seen < l.wanted;
}
