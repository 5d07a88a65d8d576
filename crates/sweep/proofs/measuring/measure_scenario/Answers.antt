use Rattle.sweep.proofs.Words.{rules, IfOk-weaker, MeasuresRun, finished, limited, IsLonger}
use Rattle.sweep.proofs.measuring.measure_scenario.Goals as goal

pub returns-in_ok-numbers-in-Ok : goal.returns-in_ok-numbers-in-Ok
returns-in_ok-numbers-in-Ok c =
    let found : MeasuresRun c.args.scenario.now c.in-Ok.findings c.in-Ok.durations c.in-Ok.trusts = search rules in
    (finished found.trace, found.is_within, c.in_ok-numbers-in-Ok.ensures found)

pub returns-in-Err-Limit : goal.returns-in-Err-Limit
returns-in-Err-Limit c =
    let long : IsLonger c.args.scenario.now = search rules in
    IfOk-weaker c.of_limited.result _ _ (λ n are. (limited, long, are)) c.of_limited.ensures
