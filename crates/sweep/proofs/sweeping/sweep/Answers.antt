use Rattle.sweep.proofs.{Words.{rules, take, IfOk-weaker, MatchResult-weaker, numbers_of, sources_of}, Reading.{if_err, if_any_err}, Heard.{heard_after, heard_none}, Ending.{breaks_at_check}}
use Rattle.sweep.proofs.sweeping.sweep.Goals as goal

pub returns-in_err-check_study-clause-breaks_off : goal.returns-in_err-check_study-clause-breaks_off
returns-in_err-check_study-clause-breaks_off g c =
    if_err c.from_residual.result _ c.in_err-check_study.field-0.0 (search rules)
    (breaks_at_check (sources_of c.args.study.now.sources.now) c.args.study.now.grid.now c.args.study.now.shard c.args.study.now.layout.now g.O.Outlet.told g.O.Outlet.failed c.args.outlet.now
    c.in_err-check_study.field-0.0 c.in_err-check_study.ensures.err)

pub returns-in_err-check_study-clause-heard_some : goal.returns-in_err-check_study-clause-heard_some
returns-in_err-check_study-clause-heard_some g c =
    if_any_err c.from_residual.result _ (heard_none g.W.Watcher.heard (sources_of c.args.study.now.sources.now) c.args.study.now.grid.now c.args.watcher.now c.check_study.new.watcher
    (numbers_of c.args.study.now.grid.now c.args.study.now.shard) c.in_err-check_study.ensures.heard)

pub returns-in_err-check_study-clause-unheard : goal.returns-in_err-check_study-clause-unheard
returns-in_err-check_study-clause-unheard g c =
    if_err c.from_residual.result _ c.in_err-check_study.field-0.0 (search rules) (λ _. c.in_err-check_study.ensures.heard)

pub returns-clause-unheard : goal.returns-clause-unheard
returns-clause-unheard g c =
    MatchResult-weaker c.run_study.result c.run_study.ensures.errors (λ u h. h) (λ e none is. absurd (none is))

pub returns-clause-heard : goal.returns-clause-heard
returns-clause-heard g c =
    IfOk-weaker c.run_study.result _ _
    (λ u up. heard_after g.W.Watcher.heard (sources_of c.args.study.now.sources.now) c.args.study.now.grid.now c.args.watcher.now c.check_study.new.watcher c.run_study.new.watcher
    (numbers_of c.args.study.now.grid.now c.args.study.now.shard) c.in_ok-check_study.ensures.heard up)
    c.run_study.ensures.heard

pub returns-clause-heard_some : goal.returns-clause-heard_some
returns-clause-heard_some g c =
    MatchResult-weaker c.run_study.result c.run_study.ensures.heard_some (λ u h. h)
    (λ e some. (
      some.0,
      heard_after g.W.Watcher.heard (sources_of c.args.study.now.sources.now) c.args.study.now.grid.now c.args.watcher.now c.check_study.new.watcher c.run_study.new.watcher
          (take some.0 (numbers_of c.args.study.now.grid.now c.args.study.now.shard)) c.in_ok-check_study.ensures.heard some.1,
    ))
