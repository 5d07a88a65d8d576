use Rattle.reporting.proofs.Words.{◌≡◌, ◌≤◌, ◌-◌, length, take, Appends}
use Rattle.reporting.proofs.outlet.put_all.Given as goal

abbrev pub invariant-loop-done : goal.invariant-loop-done
invariant-loop-done g l = record {
  within : l.done ≤ length l.piece;
  told : Appends (g.O.Outlet.told l.initial.outlet) (g.O.Outlet.told l.outlet) (take l.done l.piece);
  count : g.O.Outlet.failed l.outlet ≡ g.O.Outlet.failed l.initial.outlet;
}

abbrev pub decreases-loop-done : goal.decreases-loop-done
decreases-loop-done g l = length l.piece - l.done
