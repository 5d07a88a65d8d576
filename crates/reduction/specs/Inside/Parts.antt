-- The reduction's own part as plain data.
use Rattle.{std.specs.Prelude.{ℕ, List}, process_api.specs.{Answer.{Answer}, Sets.{Processes, changes}, Reduction.{ReductionState, gathered, step_reduction}, declared.{action.Note.{Note}, message.StepInput.{StepInput}}}}
use Rattle.{scenario_record.specs.Opening.{place_of}, reduction.specs.declared.gathering.Gathering.{Gathering}}

abbrev pub state_of : Gathering → ReductionState
state_of g = record { period = g.period; output = g.output }

-- whom it suspects once a sender shared a set
abbrev pub gathered_by : Gathering → ℕ → Processes → Processes
gathered_by g sender shared = gathered (place_of g.opening) g.output sender shared

-- how whom it suspects changes then
abbrev pub changes_by : Gathering → ℕ → Processes → List Note
changes_by g sender shared = changes 2 g.opening.processes g.output (gathered_by g sender shared)

-- what an input makes of it, and what it does, with these suspects below
abbrev pub answer_of : Gathering → Processes → StepInput → Answer ReductionState
answer_of g suspects input = step_reduction (place_of g.opening) (state_of g) suspects input
