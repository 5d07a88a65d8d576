use Rattle.sweep.proofs.Words.{◌≡◌, ◌<◌, ◌+◌, runs_each, GoesOn, next_run}
use Rattle.sweep.proofs.progress.Progress.take_all.Given as goal

abbrev pub invariant-loop-each : goal.invariant-loop-each
invariant-loop-each g l = record {
  failures : g.O.Outlet.failed l.outlet ≡ g.O.Outlet.failed l.initial.outlet;
  run_low : l.self.run < runs_each l.layout.rows l.grid;
  number : next_run l.grid l.layout l.self ≡ next_run l.grid l.layout l.initial.self + l.each-index;
  way : GoesOn l.grid l.layout g.O.Outlet.told g.O.Outlet.failed l.initial.outlet l.outlet l.numbers l.initial.self l.self;
}
