use Rattle.sweep.proofs.{Words.{◌≤◌, [], length, arith, joined_then, IfOk-weaker, MatchResult-weaker, sources_of, runs}, Ending.{cant_be_run, are_ready}}
use Rattle.sweep.proofs.checking.check_study.Goals as goal

pub returns-clause-ok : goal.returns-clause-ok
returns-clause-ok g c =
    IfOk-weaker c.check_runs-answer.result _ _
    (λ u all. are_ready (sources_of c.args.study.now.sources.now) c.args.study.now.grid.now c.args.study.now.shard c.points_of-begin.result.0 c.points_of-begin.result.1 c.points_of-begin.ensures.numbers c.args.study.now.layout.now.groups all)
    (rw c.groups-groups.ensures at c.check_runs-answer.ensures.ok)

pub returns-clause-err : goal.returns-clause-err
returns-clause-err g c =
    MatchResult-weaker c.check_runs-answer.result (rw c.groups-groups.ensures at c.check_runs-answer.ensures.err) (λ u h. h)
    (λ e first. cant_be_run (sources_of c.args.study.now.sources.now) c.args.study.now.grid.now c.args.study.now.shard c.points_of-begin.result.0 c.points_of-begin.result.1 c.points_of-begin.ensures.numbers c.args.study.now.layout.now.groups e c.recall_ranges.ensures.some_run first)

pub returns-clause-heard : goal.returns-clause-heard
returns-clause-heard g c =
    joined_then g.W.Watcher.heard c.args.watcher.now c.check_runs-answer.new.watcher c.hide.new.self [] [] c.check_runs-answer.ensures.heard c.hide.ensures.same
