use Rattle.{trace_laws.proofs.Sound.{setting_sound}, qos_report.proofs.Streamed.{ran_front, ran_same, ran_took}}
use Rattle.qos_report.proofs.streaming.run_into.Goals as goal

pub returns-clause-outlet : goal.returns-clause-outlet
returns-clause-outlet g c = ran_same _ _ c.args.scenario.now _ _ c.run_windows_into.result c.run_windows_into.ensures.trace c.run_windows_into.ensures.front

pub returns-clause-took : goal.returns-clause-took
returns-clause-took g c = ran_took _ _ c.args.scenario.now _ _ (setting_sound c.args.scenario.now c.recall_ranges.ensures) c.run_windows_into.result c.run_windows_into.ensures.trace c.run_windows_into.ensures.within

pub returns-clause-front : goal.returns-clause-front
returns-clause-front g c = ran_front _ _ c.args.scenario.now _ _ c.run_windows_into.result c.run_windows_into.ensures.front
