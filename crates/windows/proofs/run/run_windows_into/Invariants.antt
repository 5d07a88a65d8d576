use Rattle.windows.proofs.{Words.{◌≡◌, ◌-◌}, Waiting.{IsUnderway}}
use Rattle.windows.proofs.run.run_windows_into.Given as goal

abbrev pub invariant-loop-stage : goal.invariant-loop-stage
invariant-loop-stage g l =
    IsUnderway g.K.Sink.took g.M.Process.mind l.fn.scenario l.initial.sink l.stage l.sink l.parts.items
    × (g.K.Sink.failed l.sink ≡ g.K.Sink.failed l.initial.sink)

abbrev pub decreases-loop-stage : goal.decreases-loop-stage
decreases-loop-stage g l = l.fn.scenario.horizon - l.stage.start
