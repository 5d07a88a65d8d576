use Rattle.trace_merge.proofs.Words.{◌≤◌, ◌++◌, IsPermutation, length, All}
use Rattle.trace_merge.proofs.by_tick.Lane.take_up_to.Given as goal

abbrev pub invariant-loop-first : goal.invariant-loop-first
invariant-loop-first l = record {
  same : IsPermutation (l.fn.merged.entries.items ++ l.fn.self.rest.items) (l.merged.entries.items ++ l.self.rest.items);
  early : All (λ e. e.key.tick ≤ l.tick) l.fn.merged.entries.items → All (λ e. e.key.tick ≤ l.tick) l.merged.entries.items;
}

abbrev pub decreases-loop-first : goal.decreases-loop-first
decreases-loop-first l = length l.self.rest.items
