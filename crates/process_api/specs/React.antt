-- What one input makes of a mind, and what the process does.
use Rattle.std.specs.Prelude.{◌≡◌, ℕ, List, ◌++◌, None, Some}
use Rattle.std.specs.FinSet as set
use Rattle.process_api.specs.{Sets.{Processes, changes}, Answer.{notes_of_layer, Answer, still}, Detector.{suspected_by, step_detector}, Reduction.{step_reduction}, ConsensusS.{step_exchange}, Coordinator.{step_coordinator}}
use Rattle.process_api.specs.{Mind.{Lower, AlgorithmState, Idle, Exchanging, Coordinating, Mind, layer_of, suspects_of}, declared.{action.Action.{Action}, message.StepInput.{StepInput}}}

-- the base detector acts first, then the reduction, which sees whom the detector suspects by then
unfoldable pub react_lower : Lower → ℕ → StepInput → Answer Lower
react_lower m now input = let base = step_detector m.place m.detector now input in
    elim m.reduction [
      | None ↦ record { state = record m { detector = base.state }; actions = base.actions }
      | Some reduction ↦
          let over = step_reduction m.place reduction (suspected_by m.place base.state) input in
          record {
            state = record m { detector = base.state; reduction = Some over.state };
            actions = base.actions ++ over.actions;
          }
    ]

-- the notes of the detector's own layer are exactly the changes of its suspects
abbrev pub TellsChanges : (old new : Lower) → List Action → Type 0
TellsChanges old new actions = notes_of_layer (layer_of old) actions
    ≡ changes (layer_of old) old.place.processes (suspects_of old) (suspects_of new)

-- the algorithm, with the suspects of the top layer
unfoldable pub react_algorithm : AlgorithmState → StepInput → Processes → Answer AlgorithmState
react_algorithm Idle input suspects = still Idle
react_algorithm (Exchanging place s) input suspects =
    let next = step_exchange place.processes place.own (set.contains suspects) input s in
    record { state = Exchanging place next.state; actions = next.actions }
react_algorithm (Coordinating place s) input suspects =
    let next = step_coordinator place.processes place.own (set.contains suspects) input s in
    record { state = Coordinating place next.state; actions = next.actions }

-- the detector's part acts, and then the algorithm, which sees the suspects as they are by then
unfoldable pub react : Mind → ℕ → StepInput → Answer Mind
react m now input = let lower = react_lower m.lower now input in
    let upper = react_algorithm m.algorithm input (suspects_of lower.state) in
    record { state = record { lower = lower.state; algorithm = upper.state }; actions = lower.actions ++ upper.actions }
