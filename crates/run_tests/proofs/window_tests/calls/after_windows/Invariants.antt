use Rattle.std.proofs.Common.{◌≡◌}
use Rattle.windows.specs.Stage.{IsStage}
use Rattle.run_tests.proofs.window_tests.calls.after_windows.Given as goal

abbrev pub invariant-loop : goal.invariant-loop
invariant-loop g l = IsStage g.M.Process.mind l.stage × (l.stage.scenario.now ≡ l.initial.stage.scenario.now)
