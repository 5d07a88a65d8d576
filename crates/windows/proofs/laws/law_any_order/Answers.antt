use Rattle.windows.proofs.Words.{setting_of, setting_sound, berths_run, windows_trace}
use Rattle.window_laws.proofs.{Exists.{any_run}, Order.{any_order, close_alike}}
use Rattle.windows.proofs.laws.law_any_order.Goals as goal

pub returns-clause-any_order : goal.returns-clause-any_order
returns-clause-any_order c w is_world stage stands =
    any_order (setting_of c.args.scenario.now) (setting_sound c.args.scenario.now c.recall_ranges.ensures) c.args.plan.now.window c.requires.window w is_world stage stands

pub returns-clause-alike : goal.returns-clause-alike
returns-clause-alike c w is_world stage stands =
    close_alike (setting_of c.args.scenario.now) (setting_sound c.args.scenario.now c.recall_ranges.ensures) c.args.plan.now.window c.requires.window w is_world stage stands

pub returns-clause-runs : goal.returns-clause-runs
returns-clause-runs c w is_world stage stands history after run next from to none =
    any_run (setting_of c.args.scenario.now) (setting_sound c.args.scenario.now c.recall_ranges.ensures) c.args.plan.now.window c.requires.window w is_world stage stands history after run next from to none

pub returns-clause-windows : goal.returns-clause-windows
returns-clause-windows c = windows_trace (setting_of c.args.scenario.now) (setting_sound c.args.scenario.now c.recall_ranges.ensures) c.args.plan.now.window c.requires.window

pub returns-clause-berths : goal.returns-clause-berths
returns-clause-berths c w is_world stage stands history rest letters h berths =
    let r = berths_run (setting_of c.args.scenario.now) (setting_sound c.args.scenario.now c.recall_ranges.ensures) c.args.plan.now.window c.requires.window w is_world stage stands history rest letters h berths in
    (r.0, r.1, r.2, r.3, r.4, r.5)
