use Rattle.sweep.proofs.Words.{take, CountsMore}
use Rattle.sweep.proofs.value_counts.ValueCounts.add_all.Given as goal

abbrev pub invariant-loop-value : goal.invariant-loop-value
invariant-loop-value l = CountsMore (take l.value-index l.more) l.initial.self l.self
