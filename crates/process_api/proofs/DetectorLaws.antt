-- Each kind of base detector has the laws of a base detector; and what these make of a base detector alone.
use Rattle.process_api.proofs.Basics.{◌≡◌, ℕ, ◌+◌, ◌≤◌, ap, sym, ◌∙◌, length, None, arith, All, All-from_recursion, IsTrue, IsAllowed, notes_of_layer, most_first_actions, DetectorState, ByTimeout, ByFreshness, suspected_by, has_pauses, step_detector, Lower, most_actions, Place, react_lower, Processes, changes, StepInput}
use Rattle.process_api.proofs.{FreshnessLaws.{freshness_opens, freshness_laws}, TimeoutLaws.{timeout_opens, timeout_laws}}
use Rattle.process_api.specs.BaseDetector.{OpensTrusting, StepsByLaws}
use Rattle.process_api.specs.declared.numbers.DetectorNumbers.TheVariants as numbers

pub detector_opens : OpensTrusting
detector_opens place (numbers.Timeout its) = timeout_opens its
detector_opens place (numbers.Freshness its) = freshness_opens place its

pub detector_laws : StepsByLaws
unfolding step_detector
detector_laws place (ByTimeout its s) now x = timeout_laws place its s now x
detector_laws place (ByFreshness its s) now x = freshness_laws place its s x

-- a base detector with no reduction over it
module _ (place : Place) (s : DetectorState) (now : ℕ) (x : StepInput) where
  abbrev base : Lower
  base = record { place = place; detector = s; reduction = None }

  pub base_allowed : IsTrue (has_pauses s) → All (IsAllowed place.processes) (react_lower base now x).actions
  unfolding react_lower
  base_allowed paced = All-from_recursion (IsAllowed place.processes) _ ((detector_laws place s now x).allowed paced)

  pub base_few : place.processes + 2 ≤ most_first_actions → length (react_lower base now x).actions ≤ most_actions base
  unfolding react_lower
  base_few room = omega (arith, room, (detector_laws place s now x).few)

  pub base_changes : (after : Processes) → after ≡ suspected_by place (step_detector place s now x).state → notes_of_layer 1 (react_lower base now x).actions ≡ changes 1 place.processes (suspected_by place s) after
  unfolding react_lower
  base_changes after is = (detector_laws place s now x).notes ∙ ap (changes 1 place.processes (suspected_by place s)) (sym is)
