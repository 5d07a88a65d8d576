use Rattle.sweep.proofs.Words.{◌≤◌, length, min, take, AddsRowsOfSums, IsBetweenLines}
use Rattle.sweep.proofs.table.Table.push_unit.Given as goal

abbrev pub invariant-loop-place : goal.invariant-loop-place
invariant-loop-place l = record {
  between : IsBetweenLines l.self;
  low : l.place ≤ min (length l.layout.groups) (length l.sums.groups.items);
  rows : AddsRowsOfSums l.layout l.grid l.unit (take l.place l.layout.groups) l.sums l.initial.self l.self;
}
