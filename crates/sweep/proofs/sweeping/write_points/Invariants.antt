use Rattle.sweep.proofs.Words.{◌≡◌, ◌<◌, ◌≤◌, ◌-◌, ◌*◌, length, sources_of, runs, runs_each, unit_count, IsUnderWay, next_run, AreUnderWay, next_counted}
use Rattle.sweep.proofs.sweeping.write_points.Given as goal

abbrev pub invariant-loop-next : goal.invariant-loop-next
invariant-loop-next g l = record {
  failures : g.O.Outlet.failed l.outlet ≡ g.O.Outlet.failed l.initial.outlet;
  run_low : l.progress.run < runs_each l.layout.rows l.grid;
  number : next_run l.grid l.layout l.progress ≡ l.next;
  high : l.next ≤ l.end * length (runs l.grid);
  low : l.begin * length (runs l.grid) ≤ l.next;
  limits_low : l.limits.run < length (runs l.grid);
  limits_number : next_counted l.grid l.limits ≡ l.next;
  heard : AreUnderWay (sources_of l.sources) l.grid g.W.Watcher.heard l.fn.watcher l.watcher l.begin l.limits;
  way : IsUnderWay (sources_of l.sources) l.grid l.layout g.O.Outlet.told g.O.Outlet.failed l.initial.outlet l.outlet
      (unit_count l.layout.rows l.grid l.begin) l.progress;
}

abbrev pub decreases-loop-next : goal.decreases-loop-next
decreases-loop-next g l = l.end * l.runs - l.next
