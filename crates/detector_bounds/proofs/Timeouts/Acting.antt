-- What a step of the time-out detector does, by its input.
use Rattle.detector_bounds.proofs.Words.{◌≡◌, ◌≢◌, ℕ, ◌≤◌, inl, inr, refl, List, ◌++◌, map, AllByRecursion, cond_both, Answer, still, others, Place, Action, StepInput, TimeoutNumbers, both, images, always, weaker, IsIn, in_left, in_right, in_images}
use Rattle.detector_bounds.proofs.{Above.{IsAbove}, Others.{in_others}}
use Rattle.process_api.specs.Timeout.{TimeoutState, alive_to_others, watches, overdue, noticed, trusted_again, heard, step_timeout}
use Rattle.process_api.specs.declared.action.Action.TheVariants as action
use Rattle.process_api.specs.declared.action.Note.TheVariants as note
use Rattle.process_api.specs.declared.message.Payload.TheVariants as payload
use Rattle.process_api.specs.declared.message.StepInput.TheVariants as input
use Rattle.process_api.specs.declared.message.Tag.TheVariants as tag
use Rattle.process_api.proofs.Sending.{sent_to_others}

-- at these inputs a process sends Alive letters and goes on to its next Beat
abbrev pub IsBeating : StepInput → Type 0
IsBeating input.Start = Unit {0}
IsBeating (input.Wake tag.Beat) = Unit {0}
IsBeating x = ⊥

-- and at these to its next Check
abbrev pub IsChecking : StepInput → Type 0
IsChecking input.Start = Unit {0}
IsChecking (input.Wake tag.Check) = Unit {0}
IsChecking x = ⊥

module _ (numbers : TimeoutNumbers) where
  -- whatever a process does at an input is so
  abbrev pub IsDone : StepInput → Action → Type 0
  IsDone x (action.Send to payload.Alive) = IsBeating x
  IsDone x (action.Wake pause tag.Beat) = IsBeating x × (pause ≡ numbers.period)
  IsDone x (action.Wake pause tag.Check) = IsChecking x × (pause ≡ numbers.check)
  IsDone x a = Unit {0}

  above_done : (x : StepInput) (a : Action) → IsAbove 1 a → IsDone x a
  above_done x (action.Send to payload.Alive) none = absurd none
  above_done x (action.Wake pause tag.Beat) none = absurd none
  above_done x (action.Wake pause tag.Check) none = absurd none
  above_done x a is = tt

  module _ (place : Place) where
    letters_done : (x : StepInput) → IsBeating x → AllByRecursion (IsDone x) (alive_to_others place numbers)
    letters_done x is = sent_to_others (IsDone x) place.processes payload.Alive (λ q h. is) place.own

    step_done : (s : TimeoutState) (now : ℕ) (x : StepInput) → AllByRecursion (IsDone x) (step_timeout place numbers s now x).actions
    step_done s now input.Start = both (IsDone input.Start) (alive_to_others place numbers) _ (letters_done input.Start tt) ((tt, refl), ((tt, refl), tt))
    step_done s now (input.Wake tag.Beat) = both (IsDone (input.Wake tag.Beat)) (alive_to_others place numbers) _ (letters_done (input.Wake tag.Beat) tt) ((tt, refl), tt)
    step_done s now (input.Wake tag.Check) =
        let Is = IsDone (input.Wake tag.Check) in
        let late = overdue place numbers s now in
        both Is (map (λ q. action.Note (note.Suspect 1 q)) late) _
        (images Is (λ q. action.Note (note.Suspect 1 q)) late (always (λ q. Is (action.Note (note.Suspect 1 q))) (λ q. tt) late)) ((tt, refl), tt)
    step_done s now (input.Letter q payload.Alive) =
        let Are = λ (a : Answer TimeoutState). AllByRecursion (IsDone (input.Letter q payload.Alive)) a.actions in
        cond_both (watches place numbers q) (heard place numbers s now q) (still s) Are
        (λ _. cond_both _ (trusted_again place numbers s now q) (still (noticed place numbers s now q)) Are (λ _. (tt, tt)) (λ _. tt)) (λ _. tt)
    step_done s now x = tt

    pub all_done : (s : TimeoutState) (now : ℕ) (x : StepInput) (upper : List Action) → AllByRecursion (IsAbove 1) upper
        → AllByRecursion (IsDone x) ((step_timeout place numbers s now x).actions ++ upper)
    all_done s now x upper of_upper = both (IsDone x) _ upper (step_done s now x) (weaker (IsAbove 1) (IsDone x) (above_done x) upper of_upper)

    -- ---- what it surely does

    pub beats_on : (s : TimeoutState) (now : ℕ) (x : StepInput) → IsBeating x → IsIn (action.Wake numbers.period tag.Beat) (step_timeout place numbers s now x).actions
    beats_on s now input.Start is = in_right _ (alive_to_others place numbers) _ (inl refl)
    beats_on s now (input.Wake tag.Beat) is = in_right _ (alive_to_others place numbers) _ (inl refl)
    beats_on s now x is = absurd is

    pub checks_on : (s : TimeoutState) (now : ℕ) (x : StepInput) → IsChecking x → IsIn (action.Wake numbers.check tag.Check) (step_timeout place numbers s now x).actions
    checks_on s now input.Start is = in_right _ (alive_to_others place numbers) _ (inr (inl refl))
    checks_on s now (input.Wake tag.Check) is = in_right _ (map (λ q. action.Note (note.Suspect 1 q)) (overdue place numbers s now)) _ (inl refl)
    checks_on s now x is = absurd is

    -- each other process is written to
    letter_there : (q : ℕ) → 1 ≤ q → q ≤ place.processes → q ≢ place.own → IsIn (action.Send q payload.Alive) (alive_to_others place numbers)
    letter_there q low high apart =
        in_images (λ r. action.Send r payload.Alive) q (others place.processes place.own) (in_others place.processes place.own q low high apart)

    pub sends_on : (s : TimeoutState) (now : ℕ) (x : StepInput) → IsBeating x → (q : ℕ) → 1 ≤ q → q ≤ place.processes → q ≢ place.own
        → IsIn (action.Send q payload.Alive) (step_timeout place numbers s now x).actions
    sends_on s now input.Start is q low high apart = in_left _ (alive_to_others place numbers) _ (letter_there q low high apart)
    sends_on s now (input.Wake tag.Beat) is q low high apart = in_left _ (alive_to_others place numbers) _ (letter_there q low high apart)
    sends_on s now x is q low high apart = absurd is
