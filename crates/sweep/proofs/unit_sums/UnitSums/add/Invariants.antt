use Rattle.sweep.proofs.{Words.{◌≤◌}, Grouped.{AreAddedBelow}}
use Rattle.sweep.proofs.unit_sums.UnitSums.add.Given as goal

abbrev pub invariant-loop-place : goal.invariant-loop-place
invariant-loop-place l = record {
  low : l.place ≤ l.count;
  added : AreAddedBelow l.place l.numbers.groups.items l.initial.self.groups.items l.self.groups.items;
}
