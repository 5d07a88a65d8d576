use Rattle.std.proofs.Common.{◌≡◌, ◌-◌, ◌≤◌, ◌++◌, None, length, replicate}
use Rattle.process_api.proofs.cells.Cells.new.Given as goal

abbrev pub invariant-loop-cells : goal.invariant-loop-cells
invariant-loop-cells l = record {
  few : length l.cells.items ≤ l.count;
  same : l.cells.items ++ replicate (l.count - length l.cells.items) None ≡ l.fn.cells.items;
}

abbrev pub decreases-loop-cells : goal.decreases-loop-cells
decreases-loop-cells l = goal.left-loop-cells l
