-- A base detector's step and then the reduction's are the step of the two together.
use Rattle.std.proofs.{Common.{◌≡◌, ◌+◌, ◌≤◌, ◌++◌, [], ℕ, List, length, ap, sym, subst, refl, ◌∙◌, arith, append_assoc, length-append, None, Some}, lemmas.List.Elements.{All-append, All-from_recursion}}
use Rattle.std.specs.List.{All}
use Rattle.process_api.specs.{Place.{most_processes, most_first_actions, most_second_actions, Place, numbers_to}, Sets.{Processes, changes}, Answer.{Answer, to_all, IsAllowed, notes_of_layer}}
use Rattle.process_api.specs.{Mind.{Lower, layer_of, suspects_of, most_actions}, React.{react_lower}, Reduction.{ReductionState, gathered, next_share, step_reduction}, Detector.{DetectorState, suspected_by, step_detector}}
use Rattle.process_api.specs.declared.{action.Action.{Action}, message.StepInput.{StepInput}}
use Rattle.process_api.specs.declared.message.Payload.TheVariants as payload
use Rattle.process_api.specs.declared.message.StepInput.TheVariants as input
use Rattle.process_api.specs.declared.message.Tag.TheVariants as tag
use Rattle.process_api.proofs.{DetectorLaws.{detector_laws}, Allowed.{reduction_allowed}, Changes.{length-changes}, Keeping.{by_layer}, LayerNotes.{notes_of_layer-append, none_of_layer_2, no_letters, changes_kept, changes-none}}
use Rattle.process_api.proofs.Sending.{length-to_all}

-- a share takes n + 1 actions, and a letter at most n: the detector below has room for its own
reduction_few : (place : Place) (s : ReductionState) (suspects : Processes) (x : StepInput) → place.processes ≤ most_processes → most_first_actions + length (step_reduction place s suspects x).actions ≤ most_second_actions
reduction_few place s suspects input.Start few = omega arith
reduction_few place s suspects (input.Wake tag.Share) few =
    omega (arith, few, length-append (to_all place.processes (payload.Suspects suspects)) (next_share place s), length-to_all place.processes (payload.Suspects suspects))
reduction_few place s suspects (input.Letter sender (payload.Suspects shared)) few = omega (arith, few, length-changes 2 place.processes s.output (gathered place s.output sender shared))
reduction_few place s suspects x few = omega arith

-- the reduction notes exactly the changes of its output
reduction_notes : (place : Place) (s : ReductionState) (suspects : Processes) (x : StepInput)
    → notes_of_layer 2 (step_reduction place s suspects x).actions ≡ changes 2 place.processes s.output (step_reduction place s suspects x).state.output
reduction_notes place s suspects (input.Wake tag.Share) =
    notes_of_layer-append 2 (to_all place.processes (payload.Suspects suspects)) (next_share place s) ∙ (λ i. no_letters 2 (payload.Suspects suspects) (numbers_to place.processes) i ++ []) ∙ changes-none 2 place.processes s.output
reduction_notes place s suspects (input.Letter sender (payload.Suspects shared)) = changes_kept 2 place.processes s.output (gathered place s.output sender shared)
reduction_notes place s suspects x = changes-none 2 place.processes s.output

-- on layer 1 there is no reduction
base_alone : (m : Lower) → layer_of m ≡ 1 → m.reduction ≡ None
base_alone m h = by_layer (λ m. layer_of m ≡ 1 → m.reduction ≡ None) m (λ e. refl) (λ r e. absurd (omega (arith, e))) h

module _ (m : Lower) (base : layer_of m ≡ 1) (r : ReductionState) (now : ℕ) (input : StepInput) where
  abbrev below : Answer DetectorState
  below = step_detector m.place m.detector now input

  abbrev over : Answer ReductionState
  over = step_reduction m.place r (suspected_by m.place below.state) input

  abbrev top : Lower
  top = record m { reduction = Some r }

  none : m.reduction ≡ None
  none = base_alone m base

  one_acts : react_lower (record m { reduction = None }) now input ≡ record { state = record m { detector = below.state; reduction = None }; actions = below.actions }
  unfolding react_lower
  one_acts = refl

  alone : react_lower m now input ≡ record { state = record m { detector = below.state; reduction = None }; actions = below.actions }
  alone = ap (λ o. react_lower (record m { reduction = o }) now input) none ∙ one_acts

  both_act : react_lower top now input ≡ record { state = record top { detector = below.state; reduction = Some over.state }; actions = below.actions ++ over.actions }
  unfolding react_lower
  both_act = refl

  abbrev answered : Answer Lower → List Action
  answered a = a.actions

  base_actions : (react_lower m now input).actions ≡ below.actions
  base_actions = ap answered alone

  top_actions : (react_lower top now input).actions ≡ below.actions ++ over.actions
  top_actions = ap answered both_act

  pub joined_few : m.place.processes ≤ most_processes → length (react_lower m now input).actions ≤ most_actions m → length (react_lower top now input).actions ≤ most_second_actions
  joined_few few f =
      omega (
        arith,
        few,
        subst (λ o. length (react_lower m now input).actions ≤ elim o as (λ z. ℕ) [ None ↦ most_first_actions | Some reduction ↦ most_second_actions ]) none f,
        ap length base_actions,
        ap length top_actions,
        length-append below.actions over.actions,
        reduction_few m.place r (suspected_by m.place below.state) input few,
      )

  pub joined_allowed : 1 ≤ r.period → All (IsAllowed m.place.processes) (react_lower m now input).actions → All (IsAllowed m.place.processes) (react_lower top now input).actions
  joined_allowed period f =
      subst (All (IsAllowed m.place.processes)) (sym top_actions)
      (All-append (IsAllowed m.place.processes) below.actions over.actions (subst (All (IsAllowed m.place.processes)) base_actions f)
      (All-from_recursion (IsAllowed m.place.processes) over.actions (reduction_allowed m.place r (suspected_by m.place below.state) input period)))

  -- the two steps as the code takes them
  module _ (next : Lower) (after : ReductionState) (s : Processes) (place : Place) (here : place ≡ m.place)
      (lower_is : next ≡ (react_lower m now input).state) (s_is : s ≡ suspects_of next) (after_is : after ≡ (step_reduction place r s input).state) where
    next_is : next ≡ record m { detector = below.state; reduction = None }
    next_is = lower_is ∙ ap (λ (a : Answer Lower). a.state) alone

    seen : s ≡ suspected_by m.place below.state
    seen = s_is ∙ ap suspects_of next_is

    over_is : after ≡ over.state
    over_is = after_is ∙ (λ i. (step_reduction (here i) r (seen i) input).state)

    pub joined_state : record next { reduction = Some after } ≡ (react_lower top now input).state
    joined_state = (λ i. record (next_is i) { reduction = Some (over_is i) }) ∙ sym (ap (λ (a : Answer Lower). a.state) both_act)

    pub joined_actions : (old one two : List Action) → one ≡ old ++ (react_lower m now input).actions → two ≡ one ++ (step_reduction place r s input).actions → two ≡ old ++ (react_lower top now input).actions
    joined_actions old one two f g =
        g ∙ ((λ i. (f ∙ ap (λ xs. old ++ xs) base_actions) i ++ (step_reduction (here i) r (seen i) input).actions)
        ∙ (append_assoc old below.actions over.actions ∙ ap (λ xs. old ++ xs) (sym top_actions)))

    pub joined_changes : notes_of_layer 2 (react_lower top now input).actions ≡ changes 2 m.place.processes r.output after.output
    joined_changes =
        ap (notes_of_layer 2) top_actions
        ∙ (notes_of_layer-append 2 below.actions over.actions
        ∙ ((λ i. none_of_layer_2 below.actions (detector_laws m.place m.detector now input).acts i ++ reduction_notes m.place r (suspected_by m.place below.state) input i)
        ∙ ap (λ (t : ReductionState). changes 2 m.place.processes r.output t.output) (sym over_is)))
