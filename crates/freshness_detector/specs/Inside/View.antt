-- What a detector is, as plain data.
use Rattle.std.specs.Prelude.{ℕ, Bool, List}
use Rattle.process_api.specs.{Answer.{Answer}, Detector.{ByFreshness}, Freshness.{FreshnessState, watches, is_stale, suspected, noted, next_check, heard, checked, step_freshness}, Mind.{Lower}, Sets.{Processes}}
use Rattle.{process_api.specs.declared.{action.Action.{Action}, message.StepInput.{StepInput}}, scenario_record.specs.Opening.{place_of, base_of}}
use Rattle.freshness_detector.specs.{Inside.Tables.{state_by}, declared.detector.FreshnessDetector.{FreshnessDetector}}

abbrev pub state_of : FreshnessDetector → FreshnessState
state_of d = state_by d.sent d.reached d.latest.items

-- the detector's part of a mind, with no reduction
abbrev pub lower_of : FreshnessDetector → Lower
lower_of d = record (base_of d.opening) { detector = ByFreshness d.numbers (state_of d) }

-- what the definitions say of it: whom it watches, what it is once a point is reached or a heartbeat came, what it
-- notes and asks for then, and what an input makes of it
abbrev pub is_watched : FreshnessDetector → ℕ → Bool
is_watched d = watches (place_of d.opening) d.numbers

abbrev pub checked_by : FreshnessDetector → FreshnessState
checked_by d = checked (place_of d.opening) d.numbers (state_of d)

abbrev pub heard_by : FreshnessDetector → (q j : ℕ) → FreshnessState
heard_by d = heard (place_of d.opening) d.numbers (state_of d)

abbrev pub noted_by : FreshnessDetector → FreshnessState → List Action
noted_by d after = noted (place_of d.opening) d.numbers (state_of d) after

abbrev pub next_check_of : FreshnessDetector → List Action
next_check_of d = next_check (place_of d.opening) d.numbers

abbrev pub answer_of : FreshnessDetector → StepInput → Answer FreshnessState
answer_of d = step_freshness (place_of d.opening) d.numbers (state_of d)

-- whether it suspects q once a point is reached, and whom
abbrev pub is_stale_at : FreshnessDetector → (point : ℕ) → ℕ → Bool
is_stale_at d point = is_stale (place_of d.opening) d.numbers (record (state_of d) { reached = point })

abbrev pub suspected_at : FreshnessDetector → (point : ℕ) → Processes
suspected_at d point = suspected (place_of d.opening) d.numbers (record (state_of d) { reached = point })
