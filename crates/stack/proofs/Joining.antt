-- A detector's step and then an algorithm's are the step of the mind that joins them.
use Rattle.std.proofs.{Common.{◌≡◌, ◌≤◌, ◌++◌, ℕ, IsTrue, List, length, None, Some, ap, subst, ◌∙◌, arith, append_assoc, length-append}, lemmas.{List.Elements.{All-append, All-weaker}, Bool.Decides.{nat_tests}}}
use Rattle.std.specs.List.{All}
use Rattle.process_api.specs.{Place.{most_first_actions, most_second_actions, most_algorithm_actions, most_step_actions, Place, same_place}, Sets.{Processes}, Answer.{IsAllowed}}
use Rattle.process_api.specs.{Mind.{Lower, AlgorithmState, Idle, Exchanging, Coordinating, Mind, suspects_of, most_actions, processes_of, stands_at}, React.{react_lower, react_algorithm, react}}
use Rattle.process_api.specs.declared.{action.Action.{Action}, message.StepInput.{StepInput}}
use Rattle.process_api.specs.declared.action.Action.TheVariants as action

same_processes : (a b : Place) → IsTrue (same_place a b) → a.processes ≡ b.processes
same_processes a b h = grind (arith, nat_tests)

-- what a smaller system allows
allowed_more : (n : ℕ) (x : Action) → IsAllowed 0 x → IsAllowed n x
allowed_more n (action.Send to payload) h = absurd (omega (arith, h.0, h.1))
allowed_more n (action.Wake pause tag) h = h
allowed_more n (action.Note noted) h = tt

-- an algorithm's actions are allowed among the processes of the place where it stands
allowed_at : (place : Place) (a : AlgorithmState) (xs : List Action) → IsTrue (stands_at place a) → All (IsAllowed (processes_of a)) xs → All (IsAllowed place.processes) xs
allowed_at place Idle xs h every = All-weaker (IsAllowed 0) (IsAllowed place.processes) (allowed_more place.processes) xs every
allowed_at place (Exchanging its s) xs h every = subst (λ n. All (IsAllowed n) xs) (same_processes its place h) every
allowed_at place (Coordinating its s) xs h every = subst (λ n. All (IsAllowed n) xs) (same_processes its place h) every

-- a detector has no more than one with a reduction
most_is_few : (m : Lower) → most_actions m ≤ most_second_actions
most_is_few m = elim m.reduction as (λ r. elim r [ None ↦ most_first_actions | Some reduction ↦ most_second_actions ] ≤ most_second_actions) [ None ↦ omega arith | Some reduction ↦ omega arith ]

module _ (m : Lower) (a : AlgorithmState) (now : ℕ) (input : StepInput) (next : Lower) (after : AlgorithmState) (s : Processes)
    (lower_is : next ≡ (react_lower m now input).state) (s_is : s ≡ suspects_of next) (upper_is : after ≡ (react_algorithm a input s).state) where
  seen : s ≡ suspects_of (react_lower m now input).state
  seen = s_is ∙ ap suspects_of lower_is

  pub joined_mind : ◌≡◌ {A = Mind} (record { lower = next; algorithm = after }) (react (record { lower = m; algorithm = a }) now input).state
  unfolding react
  joined_mind = λ i. record { lower = lower_is i; algorithm = (upper_is ∙ ap (λ t. (react_algorithm a input t).state) seen) i }

  upper_actions : (react_algorithm a input s).actions ≡ (react_algorithm a input (suspects_of (react_lower m now input).state)).actions
  upper_actions = ap (λ t. (react_algorithm a input t).actions) seen

  pub joined_actions : (old one two : List Action) → one ≡ old ++ (react_lower m now input).actions → two ≡ one ++ (react_algorithm a input s).actions → two ≡ old ++ (react (record { lower = m; algorithm = a }) now input).actions
  unfolding react
  joined_actions old one two f g =
      g ∙ ((λ i. f i ++ upper_actions i) ∙ append_assoc old (react_lower m now input).actions (react_algorithm a input (suspects_of (react_lower m now input).state)).actions)

  pub joined_allowed : IsTrue (stands_at m.place a) → All (IsAllowed m.place.processes) (react_lower m now input).actions → All (IsAllowed (processes_of a)) (react_algorithm a input s).actions
      → All (IsAllowed m.place.processes) (react (record { lower = m; algorithm = a }) now input).actions
  unfolding react
  joined_allowed together f g =
      All-append (IsAllowed m.place.processes) _ _ f (subst (All (IsAllowed m.place.processes)) upper_actions (allowed_at m.place a _ together g))

  pub joined_few : length (react_lower m now input).actions ≤ most_actions m → length (react_algorithm a input s).actions ≤ most_algorithm_actions
      → length (react (record { lower = m; algorithm = a }) now input).actions ≤ most_step_actions
  unfolding react
  joined_few f g =
      omega (arith, f, g, most_is_few m, ap length upper_actions, length-append (react_lower m now input).actions (react_algorithm a input (suspects_of (react_lower m now input).state)).actions)
