-- The laws of a base detector of whichever kind: what stands above it rests on these, not on the definition of a kind.
use Rattle.std.specs.{Prelude.{◌≡◌, ◌⊎◌, ℕ, ◌+◌, ◌≤◌, Bool, true, false, IsTrue, List, length}, List.{AllByRecursion}}
use Rattle.std.specs.FinSet as set
use Rattle.process_api.specs.{Answer.{IsAllowed, notes_of_layer}, Place.{Place, is_other}, Sets.{Processes, changes}, Detector.{DetectorState, opening_detector, suspected_by, has_pauses, step_detector}}
use Rattle.process_api.specs.declared.action.{Action.{Action, TheVariants.{Send, Wake, Note}}, Note.TheVariants.{Suspect, Trust, Round, Decided, NoValue}}
use Rattle.process_api.specs.declared.{message.{Payload.TheVariants.{Alive, Heartbeat, Suspects, Vector, Last, Estimate, Proposal, Reply, Decide}, StepInput.{StepInput}}, numbers.DetectorNumbers.{DetectorNumbers}}

-- a base detector sends no letter of another part, and notes suspicion and trust on layer 1 alone
abbrev pub IsOfDetector : Action → Type 0
IsOfDetector (Send to Alive) = Unit {0}
IsOfDetector (Send to (Heartbeat number)) = Unit {0}
IsOfDetector (Send to (Suspects shared)) = ⊥
IsOfDetector (Send to (Vector round cells)) = ⊥
IsOfDetector (Send to (Last cells)) = ⊥
IsOfDetector (Send to (Estimate round value stamp)) = ⊥
IsOfDetector (Send to (Proposal round value)) = ⊥
IsOfDetector (Send to (Reply round ack)) = ⊥
IsOfDetector (Send to (Decide round value)) = ⊥
IsOfDetector (Wake pause tag) = Unit {0}
IsOfDetector (Note (Suspect layer who)) = layer ≡ 1
IsOfDetector (Note (Trust layer who)) = layer ≡ 1
IsOfDetector (Note (Round round)) = ⊥
IsOfDetector (Note (Decided value)) = ⊥
IsOfDetector (Note NoValue) = ⊥

-- it opens with no suspects
abbrev pub TrustsAll : Processes → Type 0
TrustsAll suspects = (q : ℕ) → set.contains suspects q ≡ false

-- one step of a base detector at its place: whom it suspects before and after, whether its pauses are at least 1 before
-- and after, and what it does
pub record IsDetectorStep (place : Place) (before after : Processes) (was_paced is_paced : Bool) (actions : List Action)
    : Type 0 where
  -- it acts for itself alone
  pub acts : AllByRecursion IsOfDetector actions
  -- its notes are exactly the changes of its suspects
  pub notes : notes_of_layer 1 actions ≡ changes 1 place.processes before after
  -- whoever becomes suspected is another process
  pub others : (q : ℕ) → set.contains after q ≡ true
      → (set.contains before q ≡ true) ⊎ (is_other place.own place.processes q ≡ true)
  -- receivers are processes, and pauses are at least 1 and stay so
  pub allowed : IsTrue was_paced → AllByRecursion (IsAllowed place.processes) actions
  pub paced : is_paced ≡ was_paced
  -- it does little: no more than a letter to each, or a note of each, and two wakes
  pub few : length actions ≤ place.processes + 2

-- it opens with no suspects
abbrev pub OpensTrusting : Type 0
OpensTrusting = (place : Place) (numbers : DetectorNumbers) → TrustsAll (suspected_by place (opening_detector numbers))

-- each of its steps has the laws of a base detector
abbrev pub StepsByLaws : Type 0
StepsByLaws = (place : Place) (s : DetectorState) (now : ℕ) (input : StepInput)
    → let next = step_detector place s now input in
    IsDetectorStep place (suspected_by place s) (suspected_by place next.state)
    (has_pauses s) (has_pauses next.state) next.actions
