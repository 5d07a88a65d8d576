use Rattle.std.proofs.Common.{rules, ◌++◌}
use Rattle.run_tests.proofs.window_tests.calls.after_windows.Goals as goal

pub loop-preserved : goal.loop-preserved
loop-preserved g c =
    let is = c.loop.invariant.0 in
    ((is.0 ++ c.in_ok-part.part.items, c.in_ok-part.ensures.stage is.0 is.1), search rules)
