use Rattle.sweep.proofs.{Words.{rules, take, IfOk-weaker, MatchResult-weaker, none_joined, numbers_of, sources_of, numbers_in}, Reading.{if_err, if_any_err}, Heard.{heard_none, heard_same}}
use Rattle.sweep.proofs.Ending.{breaks_at_header, wrote_study, breaks_at_points, header_refuses_none, points_refuse_none}
use Rattle.sweep.proofs.sweeping.run_study.Goals as goal

pub returns-in_err-write_header-clause-breaks_off :
    goal.returns-in_err-write_header-clause-breaks_off
returns-in_err-write_header-clause-breaks_off g c =
    if_err c.from_residual.result _ c.in_err-write_header.field-0.0 (search rules)
    (breaks_at_header (sources_of c.args.study.now.sources.now) c.args.study.now.grid.now c.args.study.now.shard c.args.study.now.layout.now g.O.Outlet.told g.O.Outlet.failed c.args.outlet.now
    c.write_header.new.outlet c.in_err-write_header.field-0.0 c.in_err-write_header.ensures.part)

pub returns-in_err-write_header-clause-errors :
    goal.returns-in_err-write_header-clause-errors
returns-in_err-write_header-clause-errors g c =
    if_err c.from_residual.result _ c.in_err-write_header.field-0.0 (search rules)
    (header_refuses_none c.args.study.now.grid.now c.args.study.now.layout.now g.O.Outlet.told g.O.Outlet.failed c.args.outlet.now c.write_header.new.outlet
    c.args.study.now.shard c.in_err-write_header.field-0.0 c.in_err-write_header.ensures.part)

pub returns-in_err-write_header-clause-heard_some :
    goal.returns-in_err-write_header-clause-heard_some
returns-in_err-write_header-clause-heard_some g c =
    if_any_err c.from_residual.result _ (heard_none g.W.Watcher.heard (sources_of c.args.study.now.sources.now) c.args.study.now.grid.now c.args.watcher.now c.args.watcher.now
    (numbers_of c.args.study.now.grid.now c.args.study.now.shard) (none_joined g.W.Watcher.heard c.args.watcher.now))

pub returns-clause-done : goal.returns-clause-done
returns-clause-done g c =
    IfOk-weaker c.write_points-answer.result _ _
    (λ u up. wrote_study (sources_of c.args.study.now.sources.now) c.args.study.now.grid.now c.args.study.now.shard c.points_of-swept.result.0 c.points_of-swept.result.1 c.points_of-swept.ensures.numbers c.args.study.now.layout.now g.O.Outlet.told g.O.Outlet.failed c.args.outlet.now
    c.write_header.new.outlet c.write_points-answer.new.outlet c.in_ok-write_header.ensures.whole up)
    c.write_points-answer.ensures.done

pub returns-clause-breaks_off : goal.returns-clause-breaks_off
returns-clause-breaks_off g c =
    MatchResult-weaker c.write_points-answer.result c.write_points-answer.ensures.stops (λ u h. h)
    (λ e stops. breaks_at_points (sources_of c.args.study.now.sources.now) c.args.study.now.grid.now c.args.study.now.shard c.points_of-swept.result.0 c.points_of-swept.result.1 c.points_of-swept.ensures.numbers c.args.study.now.layout.now g.O.Outlet.told g.O.Outlet.failed c.args.outlet.now
    c.write_header.new.outlet c.write_points-answer.new.outlet c.in_ok-write_header.ensures.whole e stops)

pub returns-clause-errors : goal.returns-clause-errors
returns-clause-errors g c =
    MatchResult-weaker c.write_points-answer.result c.write_points-answer.ensures.stops (λ u h. h)
    (points_refuse_none c.args.study.now.grid.now c.args.study.now.layout.now g.O.Outlet.told g.O.Outlet.failed c.write_header.new.outlet c.write_points-answer.new.outlet
    (sources_of c.args.study.now.sources.now) c.points_of-swept.result.0 c.points_of-swept.result.1)

pub returns-clause-heard : goal.returns-clause-heard
returns-clause-heard g c =
    let heard = g.W.Watcher.heard in
    let sources = sources_of c.args.study.now.sources.now in
    rw c.points_of-swept.ensures.numbers (IfOk-weaker c.write_points-answer.result _ _
    (λ u up. heard_same heard sources c.args.study.now.grid.now c.args.watcher.now c.write_points-answer.new.watcher c.hide.new.self (numbers_in c.points_of-swept.result) up c.hide.ensures.same)
    c.write_points-answer.ensures.heard)

pub returns-clause-heard_some : goal.returns-clause-heard_some
returns-clause-heard_some g c =
    let heard = g.W.Watcher.heard in
    let sources = sources_of c.args.study.now.sources.now in
    rw c.points_of-swept.ensures.numbers (MatchResult-weaker c.write_points-answer.result c.write_points-answer.ensures.heard_some (λ u h. h)
    (λ e some. (
      some.0,
      heard_same heard sources c.args.study.now.grid.now c.args.watcher.now c.write_points-answer.new.watcher c.hide.new.self
          (take some.0 (numbers_in c.points_of-swept.result)) some.1 c.hide.ensures.same,
    )))
