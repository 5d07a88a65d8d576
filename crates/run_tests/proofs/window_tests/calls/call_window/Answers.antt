use Rattle.std.proofs.{Common.{◌∙◌, sym, subst}, lemmas.List.{Elements.{All-weaker}, Sorted.{All-permutation}}}
use Rattle.{std.specs.List.{All, Sorted.{IsPermutation}}, scenario_record.specs.Ranges.{IsInRange}}
use Rattle.{windows.specs.{Berth.{IsBerthOf}, Inside.Workers.{IsReady}}, windows.proofs.Closing.{stage_ready}}
use Rattle.run_tests.proofs.window_tests.calls.call_window.Goals as goal

pub call_berths-requires-clause-ready : goal.call_berths-requires-clause-ready
call_berths-requires-clause-ready g c κs within =
    let mind = g.M.Process.mind in
    let old = c.args.stage in
    let IsOf = IsBerthOf mind old.scenario.now in
    let same = c.scenario-scenario.ensures in
    let ready = stage_ready mind old (subst (λ r. IsInRange r) same c.processes.ensures.ranges) c.requires.0 c.requires.1 in
    let all = All-weaker (IsReady mind old.scenario.now) IsOf (λ b is. is.0) old.berths.items ready in
    subst (λ s. All (IsBerthOf mind s) c.in_given_order-berths.result.items) (sym (c.new-streams.ensures ∙ same))
    (All-permutation IsOf old.berths.items _ (subst (λ bs. IsPermutation bs c.in_given_order-berths.result.items) c.into_berths.ensures c.in_given_order-berths.ensures) all)
