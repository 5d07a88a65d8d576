-- A base detector, of a kind that is defined elsewhere: how it opens, whom it suspects, what one input makes of it.
use Rattle.std.specs.Prelude.{ℕ, Bool, true, false, ◌&&◌, nat_le}
use Rattle.process_api.specs.{Sets.{Processes}, Place.{Place}, Answer.{Answer}, Timeout.{TimeoutState, opening_timeout, step_timeout}, Freshness.{FreshnessState, opening_freshness, suspected, step_freshness}}
use Rattle.process_api.specs.declared.{message.StepInput.{StepInput}, numbers.{DetectorNumbers.{DetectorNumbers}, FreshnessNumbers.{FreshnessNumbers}, TimeoutNumbers.{TimeoutNumbers}}}
use Rattle.process_api.specs.declared.numbers.DetectorNumbers.TheVariants as numbers

-- its numbers, and its state
pub data DetectorState : Type 0 where
  -- the time-out detector
  ByTimeout : TimeoutNumbers → TimeoutState → DetectorState
  -- freshness points
  ByFreshness : FreshnessNumbers → FreshnessState → DetectorState

-- numbers of the one kind, and of the other
abbrev pub is_timeout : DetectorNumbers → Bool
is_timeout (numbers.Timeout its) = true
is_timeout (numbers.Freshness its) = false

abbrev pub is_freshness : DetectorNumbers → Bool
is_freshness (numbers.Timeout its) = false
is_freshness (numbers.Freshness its) = true

abbrev pub opening_detector : DetectorNumbers → DetectorState
opening_detector (numbers.Timeout its) = ByTimeout its (opening_timeout its)
opening_detector (numbers.Freshness its) = ByFreshness its opening_freshness

-- whom it suspects, at its place
abbrev pub suspected_by : Place → DetectorState → Processes
suspected_by place (ByTimeout its s) = s.suspects
suspected_by place (ByFreshness its s) = suspected place its s

-- its pauses are at least 1
abbrev pub has_pauses : DetectorState → Bool
has_pauses (ByTimeout its s) = nat_le 1 its.period && nat_le 1 its.check
has_pauses (ByFreshness its s) = nat_le 1 its.eta

unfoldable pub step_detector : Place → DetectorState → ℕ → StepInput → Answer DetectorState
step_detector place (ByTimeout its s) now input = let next = step_timeout place its s now input in
    record { state = ByTimeout its next.state; actions = next.actions }
step_detector place (ByFreshness its s) now input = let next = step_freshness place its s input in
    record { state = ByFreshness its next.state; actions = next.actions }
