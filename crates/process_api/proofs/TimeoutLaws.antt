-- The time-out detector has the laws of a base detector.
use Rattle.process_api.proofs.Basics.{◌≡◌, ◌⊎◌, inl, inr, ℕ, ◌+◌, ◌-◌, ◌≤◌, refl, sym, ap, ◌∙◌, List, [], ◌∷◌, ◌++◌, map, length, length-append, true, false, not, ◌&&◌, nat_eq, nat_le, nat_cmp, arith, leb-true, and_parts, or_cases, cond_both, and-false, length-map, AllByRecursion, IsTrue, IsAllowed, notes_of_layer, Answer, still, IsOfDetector, TrustsAll, IsDetectorStep, is_process, others, Place, changes, is_other, Action, StepInput}
use Rattle.process_api.proofs.{Changes.{changes-joined, changes-left}, LayerNotes.{notes_of_layer-append, no_letters, changes-none}, Lists.{both, images, always}, Contains.{contains-insert_all, contains-remove_is}}
use Rattle.process_api.proofs.{Numbering.{length-filter_to}, Sending.{sent_to_others, length-to_others}}
use Rattle.std.specs.FinSet as set
use Rattle.process_api.specs.{Timeout.{TimeoutState, opening_timeout, alive_to_others, next_beat, next_check, watches, is_overdue, overdue, noticed, trusted_again, heard, step_timeout}, declared.numbers.TimeoutNumbers.{TimeoutNumbers}}
use Rattle.process_api.specs.declared.action.Action.TheVariants as action
use Rattle.process_api.specs.declared.action.Note.TheVariants as note
use Rattle.process_api.specs.declared.message.Payload.TheVariants as payload
use Rattle.process_api.specs.declared.message.StepInput.TheVariants as input
use Rattle.process_api.specs.declared.message.Tag.TheVariants as tag

noted_suspicions : (qs : List ℕ) → notes_of_layer 1 (map (λ q. action.Note (note.Suspect 1 q)) qs) ≡ map (note.Suspect 1) qs
noted_suspicions [] = refl
noted_suspicions (q ∷ qs) = ap (λ later. note.Suspect 1 q ∷ later) (noted_suspicions qs)

pub timeout_opens : (numbers : TimeoutNumbers) → TrustsAll (opening_timeout numbers).suspects
timeout_opens numbers = λ q. set.contains-empty nat_cmp q

module _ (place : Place) (numbers : TimeoutNumbers) where
  -- what a letter makes of it: it is of a suspected process, of one that is trusted, or of one that isn't watched
  by_letter : (s : TimeoutState) (now q : ℕ) (P : Answer TimeoutState → Type 0) → (watches place numbers q ≡ true → set.contains s.suspects q ≡ true → P (trusted_again place numbers s now q))
      → (watches place numbers q ≡ true → P (still (noticed place numbers s now q))) → (watches place numbers q ≡ false → P (still s)) → P (step_timeout place numbers s now (input.Letter q payload.Alive))
  by_letter s now q P again heard_of other =
      cond_both (watches place numbers q) (heard place numbers s now q) (still s) P
      (λ watched. cond_both (set.contains s.suspects q) (trusted_again place numbers s now q) (still (noticed place numbers s now q)) P (again watched) (λ _. heard_of watched)) other

  -- ---- what it does

  -- what holds of each action that it may take
  module _ (P : Action → Type 0) (sends : (q : ℕ) → (1 ≤ q) × (q ≤ place.processes) → P (action.Send q payload.Alive)) (beats : P (action.Wake numbers.period tag.Beat)) (checks : P (action.Wake numbers.check tag.Check))
      (suspects : (q : ℕ) → P (action.Note (note.Suspect 1 q))) (trusts : (q : ℕ) → P (action.Note (note.Trust 1 q))) where
    abbrev Have : Answer TimeoutState → Type 0
    Have a = AllByRecursion P a.actions

    letters : AllByRecursion P (alive_to_others place numbers)
    letters = sent_to_others P place.processes payload.Alive sends place.own

    all_have : (s : TimeoutState) (now : ℕ) (x : StepInput) → AllByRecursion P (step_timeout place numbers s now x).actions
    all_have s now input.Start = both P (alive_to_others place numbers) _ letters (beats, (checks, tt))
    all_have s now (input.Wake tag.Beat) = both P (alive_to_others place numbers) _ letters (beats, tt)
    all_have s now (input.Wake tag.Check) =
        let late = overdue place numbers s now in
        both P (map (λ q. action.Note (note.Suspect 1 q)) late) _ (images P (λ q. action.Note (note.Suspect 1 q)) late (always (λ q. P (action.Note (note.Suspect 1 q))) suspects late)) (checks, tt)
    all_have s now (input.Letter q payload.Alive) = by_letter s now q Have (λ _ _. (trusts q, tt)) (λ _. tt) (λ _. tt)
    all_have s now x = tt

  acts : (s : TimeoutState) (now : ℕ) (x : StepInput) → AllByRecursion IsOfDetector (step_timeout place numbers s now x).actions
  acts = all_have IsOfDetector (λ q h. tt) tt tt (λ q. refl) (λ q. refl)

  allowed : (s : TimeoutState) (now : ℕ) (x : StepInput) → IsTrue (nat_le 1 numbers.period && nat_le 1 numbers.check) → AllByRecursion (IsAllowed place.processes) (step_timeout place numbers s now x).actions
  allowed s now x paced =
      let parts = and_parts (nat_le 1 numbers.period) (nat_le 1 numbers.check) paced in
      all_have (IsAllowed place.processes) (λ q h. h) (leb-true 1 numbers.period parts.0) (leb-true 1 numbers.check parts.1) (λ q. tt) (λ q. tt) s now x

  abbrev IsFew : Answer TimeoutState → Type 0
  IsFew a = length a.actions ≤ place.processes + 2

  few : (s : TimeoutState) (now : ℕ) (x : StepInput) → IsFew (step_timeout place numbers s now x)
  few s now input.Start = omega (arith, length-to_others place.processes place.own payload.Alive, length-append (alive_to_others place numbers) (next_beat place numbers ++ next_check place numbers))
  few s now (input.Wake tag.Beat) = omega (arith, length-to_others place.processes place.own payload.Alive, length-append (alive_to_others place numbers) (next_beat place numbers))
  few s now (input.Wake tag.Check) =
      let noted : List Action = map (λ q. action.Note (note.Suspect 1 q)) (overdue place numbers s now) in
      omega (arith, length-filter_to (is_overdue place numbers s now) place.processes, length-map (overdue place numbers s now) (λ q. action.Note (note.Suspect 1 q)), length-append noted (next_check place numbers))
  few s now (input.Letter q payload.Alive) = by_letter s now q IsFew (λ _ _. omega arith) (λ _. omega arith) (λ _. omega arith)
  few s now x = omega arith

  -- ---- whom it suspects

  -- the notes are the changes of the suspects
  abbrev Tells : TimeoutState → Answer TimeoutState → Type 0
  Tells s a = notes_of_layer 1 a.actions ≡ changes 1 place.processes s.suspects a.state.suspects

  letters_and : (s : TimeoutState) (wakes : List Action) → notes_of_layer 1 wakes ≡ [] → notes_of_layer 1 (alive_to_others place numbers ++ wakes) ≡ changes 1 place.processes s.suspects s.suspects
  letters_and s wakes silent =
      notes_of_layer-append 1 (alive_to_others place numbers) wakes
      ∙ ((λ i. no_letters 1 payload.Alive (others place.processes place.own) i ++ silent i)
      ∙ changes-none 1 place.processes s.suspects)

  notes : (s : TimeoutState) (now : ℕ) (x : StepInput) → Tells s (step_timeout place numbers s now x)
  notes s now input.Start = letters_and s (next_beat place numbers ++ next_check place numbers) refl
  notes s now (input.Wake tag.Beat) = letters_and s (next_beat place numbers) refl
  -- a check: those that are overdue join, none of whom is suspected yet
  notes s now (input.Wake tag.Check) =
      notes_of_layer-append 1 (map (λ q. action.Note (note.Suspect 1 q)) (overdue place numbers s now)) (next_check place numbers)
      ∙ (ap (λ notes. notes ++ []) (noted_suspicions (overdue place numbers s now))
      ∙ changes-joined place.processes s.suspects (is_overdue place numbers s now)
      (λ q h. ap (λ c. watches place numbers q && (not c && nat_le (s.bound q) (now - s.last_heard q))) h ∙ and-false (watches place numbers q)))
  -- a letter of a suspected process: that one alone is trusted
  notes s now (input.Letter q payload.Alive) =
      by_letter s now q (Tells s)
      (λ watched suspected. changes-left place.processes s.suspects q (and_parts _ _ (and_parts _ _ watched).0).0 suspected)
      (λ _. changes-none 1 place.processes s.suspects) (λ _. changes-none 1 place.processes s.suspects)
  notes s now x = changes-none 1 place.processes s.suspects

  others_join : (s : TimeoutState) (now : ℕ) (x : StepInput) (q : ℕ) → set.contains (step_timeout place numbers s now x).state.suspects q ≡ true → (set.contains s.suspects q ≡ true) ⊎ (is_other place.own place.processes q ≡ true)
  others_join s now (input.Wake tag.Check) q h = go (or_cases (is_process place.processes q && is_overdue place numbers s now q) _ (sym (contains-insert_all s.suspects (is_overdue place numbers s now) place.processes q) ∙ h))
    where
      go : ((is_process place.processes q && is_overdue place numbers s now q) ≡ true) ⊎ (set.contains s.suspects q ≡ true) → (set.contains s.suspects q ≡ true) ⊎ (is_other place.own place.processes q ≡ true)
      go (inl late) = inr (and_parts _ _ (and_parts _ _ (and_parts _ _ late).1).0).0
      go (inr before) = inl before
  others_join s now (input.Letter k payload.Alive) q h =
      inl (by_letter s now k (λ a. set.contains a.state.suspects q ≡ true → set.contains s.suspects q ≡ true)
      (λ _ _ f. (and_parts (not (nat_eq q k)) _ (sym (contains-remove_is s.suspects k q) ∙ f)).1) (λ _ f. f) (λ _ f. f) h)
  others_join s now x q h = inl h

  pub timeout_laws : (s : TimeoutState) (now : ℕ) (x : StepInput)
      → IsDetectorStep place s.suspects (step_timeout place numbers s now x).state.suspects (nat_le 1 numbers.period && nat_le 1 numbers.check) (nat_le 1 numbers.period && nat_le 1 numbers.check) (step_timeout place numbers s now x).actions
  timeout_laws s now x = record { acts = acts s now x; notes = notes s now x; others = others_join s now x; allowed = allowed s now x; paced = refl; few = few s now x }
