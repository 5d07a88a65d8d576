-- What a detector is, as plain data.
use Rattle.std.specs.Prelude.{ℕ, Bool, List, ◌++◌, slice_index_or}
use Rattle.process_api.specs.{Answer.{Answer}, Timeout.{TimeoutState, watches, checked, heard, alive_to_others, next_beat, step_timeout}, Detector.{ByTimeout}, Mind.{Lower}, declared.{action.Action.{Action}, message.StepInput.{StepInput}}}
use Rattle.process_api.specs.Timeout as timeout
use Rattle.{scenario_record.specs.Opening.{place_of, base_of}, timeout_detector.specs.declared.detector.TimeoutDetector.{TimeoutDetector}}

-- its tables as functions: processes that they have no place for are as at the opening
abbrev pub state_of : TimeoutDetector → TimeoutState
state_of d = record {
  last_heard = λ q. slice_index_or d.last_heard.items q 0;
  bound = λ q. slice_index_or d.bound.items q d.numbers.timeout;
  suspects = d.suspects;
}

-- the detector's part of a mind, with no reduction
abbrev pub lower_of : TimeoutDetector → Lower
lower_of d = record (base_of d.opening) { detector = ByTimeout d.numbers (state_of d) }

-- what the definitions say of it: whom it watches, who is overdue at a tick, and what an input makes of it
abbrev pub is_watched : TimeoutDetector → ℕ → Bool
is_watched d = watches (place_of d.opening) d.numbers

abbrev pub is_overdue : TimeoutDetector → ℕ → ℕ → Bool
is_overdue d = timeout.is_overdue (place_of d.opening) d.numbers (state_of d)

abbrev pub checked_by : TimeoutDetector → ℕ → Answer TimeoutState
checked_by d = checked (place_of d.opening) d.numbers (state_of d)

abbrev pub heard_by : TimeoutDetector → ℕ → ℕ → Answer TimeoutState
heard_by d = heard (place_of d.opening) d.numbers (state_of d)

abbrev pub beats_of : TimeoutDetector → List Action
beats_of d = alive_to_others (place_of d.opening) d.numbers ++ next_beat (place_of d.opening) d.numbers

abbrev pub answer_of : TimeoutDetector → ℕ → StepInput → Answer TimeoutState
answer_of d = step_timeout (place_of d.opening) d.numbers (state_of d)
