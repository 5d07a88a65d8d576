use Rattle.std.proofs.Common.{◌≡◌, ◌*◌, ◌-◌, ◌^◌, ◌≤◌, min, length, drop}
use Rattle.study.proofs.Points.{ways}
use Rattle.study.proofs.combination.count_combinations.Given as goal

abbrev pub invariant-loop-axis : goal.invariant-loop-axis
invariant-loop-axis l = record {
  whole : min (l.count * length (ways (drop l.axis-index l.axes))) (2 ^ 64 - 1) ≡ min (length (ways l.axes)) (2 ^ 64 - 1);
  low : 1 ≤ l.count;
  high : l.count ≤ 2 ^ 64 - 1;
}
