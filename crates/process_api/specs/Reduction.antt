-- The reduction of Chandra and Toueg (Journal of the ACM 43(2), 1996) from weak to strong completeness: each process
-- shares whom the detector below it suspects, and gathers what others share.
use Rattle.std.specs.Prelude.{ℕ, List, [], ◌∷◌, ◌++◌, map}
use Rattle.std.specs.FinSet as set
use Rattle.process_api.specs.{Sets.{Processes, up_to, changes}, Place.{Place}, Answer.{Answer, still, to_all}, declared.{action.Action.{Action}, message.StepInput.{StepInput}}}
use Rattle.process_api.specs.declared.action.Action.TheVariants as action
use Rattle.process_api.specs.declared.message.Payload.TheVariants as payload
use Rattle.process_api.specs.declared.message.StepInput.TheVariants as input
use Rattle.process_api.specs.declared.message.Tag.TheVariants as tag

pub record ReductionState : Type 0 where
  -- ticks between two shares
  pub period : ℕ
  -- whom this process suspects: layer 2
  pub output : Processes

abbrev pub opening_reduction : ℕ → ReductionState
opening_reduction period = record { period = period; output = set.empty }

module _ (place : Place) where
  -- the union after a letter, without the sender, which is alive, and without oneself; members above n are left out
  abbrev pub gathered : Processes → ℕ → Processes → Processes
  gathered output sender shared =
      set.remove (set.remove (set.union output (up_to place.processes shared)) sender) place.own

  abbrev pub next_share : ReductionState → List Action
  next_share s = action.Wake s.period tag.Share ∷ []

  -- suspects: those of the detector below, by now
  abbrev pub step_reduction : ReductionState → Processes → StepInput → Answer ReductionState
  step_reduction s suspects input.Start = record { state = s; actions = next_share s }
  step_reduction s suspects (input.Wake tag.Share) = record {
    state = s;
    actions = to_all place.processes (payload.Suspects suspects) ++ next_share s;
  }
  step_reduction s suspects (input.Letter sender (payload.Suspects shared)) = record {
    state = record s { output = gathered s.output sender shared };
    actions = map action.Note (changes 2 place.processes s.output (gathered s.output sender shared));
  }
  step_reduction s suspects x = still s
