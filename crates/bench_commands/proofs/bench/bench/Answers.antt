use Rattle.bench_commands.proofs.{Words.{rules, Memory}, Stopping.{refused_at_machines}}
use Rattle.{trace_laws.proofs.Sound.{setting_sound}, reporting.proofs.Fed.{if_reason}}
use Rattle.bench_commands.proofs.bench.bench.Goals as goal

pub returns-in_err-machines-clause-refused : goal.returns-in_err-machines-clause-refused
returns-in_err-machines-clause-refused g c =
    let s = c.args.scenario.now in
    if_reason c.from_residual.result _ Memory (search rules)
    (refused_at_machines s c.args.print g.O.Outlet.told g.O.Outlet.failed (setting_sound s c.recall_ranges.ensures) c.args.outlet.now c.args.mode)
