use Rattle.std.proofs.Common.{ap, Err}
use Rattle.bench_commands.proofs.{Stopping.{list_done, stops_by, why_by}, commands.texts.Goals.{in-Ok, in-Err}}
use Rattle.bench_commands.proofs.commands.texts.Goals as goal

pub returns-clause-text : goal.returns-clause-text
returns-clause-text g c = elim c.match-bench.branch [
  | in-Ok w ↦
      rw w.result-is
      (list_done c.args.scenario.now c.args.print g.O.Outlet.told g.O.Outlet.failed _ _ _ w.in-Ok.ensures.done)
  | in-Err w ↦
      rw w.result-is
      (stops_by c.args.scenario.now c.args.print g.O.Outlet.told g.O.Outlet.failed _ _ c.args.mode w.in-Err.error w.in-Err.ensures.refused)
]

pub returns-clause-why : goal.returns-clause-why
returns-clause-why g c = elim c.match-bench.branch [
  | in-Ok w ↦ rw w.result-is tt
  | in-Err w ↦
      rw w.result-is
      (why_by c.args.scenario.now c.args.print g.O.Outlet.told g.O.Outlet.failed _ _ c.args.mode w.in-Err.error w.in-Err.ensures.refused
      (λ by is. w.in-Err.ensures.threads by (ap Err is)))
]
