use Rattle.{std.proofs.{Common.{sym, subst}, lemmas.List.Elements.{All-head, All-tail}}, std.specs.List.{All}}
use Rattle.windows.specs.Berth.{IsBerthOf}
use Rattle.run_tests.proofs.window_tests.calls.call_berths.Goals as goal

pub loop-berth-init : goal.loop-berth-init
loop-berth-init g c = (
  c.requires.slip,
  subst (All (IsBerthOf g.M.Process.mind c.args.streams.now)) (sym (c.into_iter-berth-iterator.ensures.into_iter_gives.0)) c.requires.ready,
)

pub run_berth-requires-clause-berth : goal.run_berth-requires-clause-berth
run_berth-requires-clause-berth g c κs within =
    let IsOf = IsBerthOf g.M.Process.mind c.args.streams.now in
    All-head IsOf c.in-Some.berth _ (subst (All IsOf) c.in-Some.ensures.steps.0 c.loop-berth.invariant.1)

pub run_berth-requires-clause-slip : goal.run_berth-requires-clause-slip
run_berth-requires-clause-slip g c κs within = c.loop-berth.invariant.0

pub run_berth-requires-in-loop-berth-clause-berth : goal.run_berth-requires-in-loop-berth-clause-berth
run_berth-requires-in-loop-berth-clause-berth g c κs within =
    let IsOf = IsBerthOf g.M.Process.mind c.args.streams.now in
    let is = All-head IsOf c.in-Some.berth _ (subst (All IsOf) c.in-Some.ensures.steps.0 c.loop-berth.invariant.1) in
    (is.0, c.in_ok-run_berth.ensures.berth is.0 _ is.1)

pub loop-berth-preserved : goal.loop-berth-preserved
loop-berth-preserved g c =
    let IsOf = IsBerthOf g.M.Process.mind c.args.streams.now in
    (c.run_berth-in-loop-berth.ensures.slip, All-tail IsOf c.in-Some.berth _ (subst (All IsOf) c.in-Some.ensures.steps.0 c.loop-berth.invariant.1))
