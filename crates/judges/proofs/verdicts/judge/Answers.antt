use Rattle.judges.proofs.{Words.{sym, subst, [], IsJudging, AreVerdicts}, Meaning.{verdicts_mean}}
use Rattle.judges.proofs.verdicts.judge.Goals as goal

pub returns-clause-value : goal.returns-clause-value
returns-clause-value c =
    let S = c.args.scenario.now in
    c.close.ensures S c.args.layer c.args.trace.now
    (subst (λ told. IsJudging S c.args.layer told c.follow_all.new.follower) c.entries.ensures.value
    (c.in_ok-follow_all.ensures c.in_ok-judge.judge [] (λ S layer opened _. opened) S c.args.layer c.in_ok-judge.ensures c.entries.ensures.rising))

pub returns-clause-meaning : goal.returns-clause-meaning
returns-clause-meaning c =
    subst (AreVerdicts c.args.scenario.now c.args.trace.now c.args.layer) (sym (returns-clause-value c)) (verdicts_mean c.args.scenario.now c.args.trace.now c.args.layer)
