use Rattle.judges.proofs.{Words.{◌∙◌, sym, ap, subst, [], Agree, outcomes}, Agreement.Agreed.{agrees}}
use Rattle.judges.proofs.outcomes.decisions.Goals as goal

pub returns-in_err-running-clause-once : goal.returns-in_err-running-clause-once
returns-in_err-running-clause-once c is = (agrees c.args.scenario.now c.open.ensures.ranges is.0 c.args.trace.now is.1).once

pub returns-in_err-follow_all-clause-once : goal.returns-in_err-follow_all-clause-once
returns-in_err-follow_all-clause-once c is = (agrees c.args.scenario.now c.open.ensures.ranges is.0 c.args.trace.now is.1).once

pub returns-clause-once : goal.returns-clause-once
returns-clause-once c is = (agrees c.args.scenario.now c.open.ensures.ranges is.0 c.args.trace.now is.1).once

pub returns-clause-outcomes : goal.returns-clause-outcomes
returns-clause-outcomes c =
    let n = c.args.scenario.now.processes in
    c.close.ensures n c.entries.result.now (c.in_ok-follow_all.ensures c.in_ok-running.running [] (λ n opened. opened) n c.in_ok-running.ensures.value)
    ∙ ap (λ told. outcomes told n) c.entries.ensures.value

pub returns-clause-agree : goal.returns-clause-agree
returns-clause-agree c is =
    subst (Agree c.args.scenario.now) (sym (returns-clause-outcomes c)) (agrees c.args.scenario.now c.open.ensures.ranges is.0 c.args.trace.now is.1).agree
