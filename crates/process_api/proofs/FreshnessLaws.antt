-- The detector with freshness points has the laws of a base detector.
use Rattle.process_api.proofs.Basics.{◌≡◌, inr, ℕ, ◌+◌, ◌≤◌, refl, sym, ap, ◌∙◌, [], ◌++◌, map, length, length-append, append-nil, true, ◌&&◌, ◌||◌, nat_le, nat_cmp, arith, leb-true, and_parts, and_right, cond_both, and-false, or-false, AllByRecursion, IsTrue, IsAllowed, notes_of_layer, Answer, still, IsOfDetector, TrustsAll, IsDetectorStep, is_process, others, Place, Processes, gone, changes, is_other, Action, StepInput}
use Rattle.process_api.proofs.{Changes.{length-changes}, LayerNotes.{notes_of_layer-append, no_letters, changes_kept, changes-none}, Lists.{both, images, always}, Contains.{contains-insert_all}, Sending.{sent_to_others, length-to_others}}
use Rattle.std.specs.FinSet as set
use Rattle.process_api.specs.Freshness.{FreshnessState, opening_freshness, next, watches, is_stale, suspected, noted, heartbeat_to_others, next_beat, next_check, checked, heard, step_freshness}
use Rattle.process_api.specs.declared.{message.Tag.{Tag}, numbers.FreshnessNumbers.{FreshnessNumbers}}
use Rattle.process_api.specs.declared.action.Action.TheVariants as action
use Rattle.process_api.specs.declared.action.Note.TheVariants as note
use Rattle.process_api.specs.declared.message.Payload.TheVariants as payload
use Rattle.process_api.specs.declared.message.StepInput.TheVariants as input
use Rattle.process_api.specs.declared.message.Tag.TheVariants as tag

module _ (place : Place) (numbers : FreshnessNumbers) where
  -- q is suspected just where it is one of 1 to n and stale
  pub contains-suspected : (s : FreshnessState) (q : ℕ) → set.contains (suspected place numbers s) q ≡ (is_process place.processes q && is_stale place numbers s q)
  contains-suspected s q = contains-insert_all set.empty (is_stale place numbers s) place.processes q ∙ ap (λ b. (is_process place.processes q && is_stale place numbers s q) || b) (set.contains-empty nat_cmp q) ∙ or-false _

  pub freshness_opens : TrustsAll (suspected place numbers opening_freshness)
  freshness_opens q = contains-suspected opening_freshness q ∙ and_right (is_process place.processes q) _ (and-false (watches place numbers q))

  -- whoever is suspected is another process
  pub only_others : (s : FreshnessState) (q : ℕ) → set.contains (suspected place numbers s) q ≡ true → is_other place.own place.processes q ≡ true
  only_others s q h =
      let stale : is_stale place numbers s q ≡ true = (and_parts (is_process place.processes q) (is_stale place numbers s q) (sym (contains-suspected s q) ∙ h)).1 in
      (and_parts _ _ (and_parts (watches place numbers q) _ stale).0).0

  -- what a heartbeat makes of it: it is of a watched process, or of another
  by_letter : (s : FreshnessState) (q j : ℕ) (P : Answer FreshnessState → Type 0) → P (record { state = heard place numbers s q j; actions = noted place numbers s (heard place numbers s q j) }) → P (still s)
      → P (step_freshness place numbers s (input.Letter q (payload.Heartbeat j)))
  by_letter s q j P watched other =
      cond_both (watches place numbers q) (record { state = heard place numbers s q j; actions = noted place numbers s (heard place numbers s q j) }) (still s) P (λ _. watched) (λ _. other)

  -- what holds of each action that it may take
  module _ (P : Action → Type 0) (sends : (i q : ℕ) → (1 ≤ q) × (q ≤ place.processes) → P (action.Send q (payload.Heartbeat i))) (wakes : (pause : ℕ) (why : Tag) → numbers.eta ≤ pause → P (action.Wake pause why))
      (suspects : (q : ℕ) → P (action.Note (note.Suspect 1 q))) (trusts : (q : ℕ) → P (action.Note (note.Trust 1 q))) where
    abbrev Have : Answer FreshnessState → Type 0
    Have a = AllByRecursion P a.actions

    all_noted : (old new : Processes) → AllByRecursion P (map action.Note (changes 1 place.processes old new))
    all_noted old new =
        images P action.Note (changes 1 place.processes old new)
        (both (λ x. P (action.Note x)) (map (note.Suspect 1) (gone place.processes new old)) (map (note.Trust 1) (gone place.processes old new))
        (images (λ x. P (action.Note x)) (note.Suspect 1) (gone place.processes new old) (always (λ q. P (action.Note (note.Suspect 1 q))) suspects (gone place.processes new old)))
        (images (λ x. P (action.Note x)) (note.Trust 1) (gone place.processes old new) (always (λ q. P (action.Note (note.Trust 1 q))) trusts (gone place.processes old new))))

    all_have : (s : FreshnessState) (x : StepInput) → AllByRecursion P (step_freshness place numbers s x).actions
    all_have s input.Start = (wakes _ _ (omega arith), (wakes _ _ (omega arith), tt))
    all_have s (input.Wake tag.Beat) =
        both P (heartbeat_to_others place numbers (next s.sent)) _ (sent_to_others P place.processes (payload.Heartbeat (next s.sent)) (sends (next s.sent)) place.own) (wakes _ _ (omega arith), tt)
    all_have s (input.Wake tag.Check) =
        both P (noted place numbers s (checked place numbers s)) _ (all_noted (suspected place numbers s) (suspected place numbers (checked place numbers s))) (wakes _ _ (omega arith), tt)
    all_have s (input.Letter q (payload.Heartbeat j)) = by_letter s q j Have (all_noted (suspected place numbers s) (suspected place numbers (heard place numbers s q j))) tt
    all_have s x = tt

  acts : (s : FreshnessState) (x : StepInput) → AllByRecursion IsOfDetector (step_freshness place numbers s x).actions
  acts = all_have IsOfDetector (λ i q h. tt) (λ p w h. tt) (λ q. refl) (λ q. refl)

  allowed : (s : FreshnessState) (x : StepInput) → IsTrue (nat_le 1 numbers.eta) → AllByRecursion (IsAllowed place.processes) (step_freshness place numbers s x).actions
  allowed s x paced = all_have (IsAllowed place.processes) (λ i q h. h) (λ p w h. omega (arith, h, leb-true 1 numbers.eta paced)) (λ q. tt) (λ q. tt) s x

  abbrev IsFew : Answer FreshnessState → Type 0
  IsFew a = length a.actions ≤ place.processes + 2

  few : (s : FreshnessState) (x : StepInput) → IsFew (step_freshness place numbers s x)
  few s input.Start = omega arith
  few s (input.Wake tag.Beat) = omega (arith, length-to_others place.processes place.own (payload.Heartbeat (next s.sent)), length-append (heartbeat_to_others place numbers (next s.sent)) (next_beat place numbers))
  few s (input.Wake tag.Check) = omega (arith, length-changes 1 place.processes (suspected place numbers s) (suspected place numbers (checked place numbers s)), length-append (noted place numbers s (checked place numbers s)) (next_check place numbers))
  few s (input.Letter q (payload.Heartbeat j)) = by_letter s q j IsFew (omega (arith, length-changes 1 place.processes (suspected place numbers s) (suspected place numbers (heard place numbers s q j)))) (omega arith)
  few s x = omega arith

  -- the notes are the changes of the suspects
  abbrev Tells : FreshnessState → Answer FreshnessState → Type 0
  Tells s a = notes_of_layer 1 a.actions ≡ changes 1 place.processes (suspected place numbers s) (suspected place numbers a.state)

  notes : (s : FreshnessState) (x : StepInput) → Tells s (step_freshness place numbers s x)
  notes s input.Start = changes-none 1 place.processes (suspected place numbers s)
  notes s (input.Wake tag.Beat) =
      notes_of_layer-append 1 (heartbeat_to_others place numbers (next s.sent)) (next_beat place numbers)
      ∙ ((λ i. no_letters 1 (payload.Heartbeat (next s.sent)) (others place.processes place.own) i ++ [])
      ∙ changes-none 1 place.processes (suspected place numbers s))
  notes s (input.Wake tag.Check) =
      notes_of_layer-append 1 (noted place numbers s (checked place numbers s)) (next_check place numbers)
      ∙ (append-nil _ ∙ changes_kept 1 place.processes (suspected place numbers s) (suspected place numbers (checked place numbers s)))
  notes s (input.Letter q (payload.Heartbeat j)) =
      by_letter s q j (Tells s) (changes_kept 1 place.processes (suspected place numbers s) (suspected place numbers (heard place numbers s q j))) (changes-none 1 place.processes (suspected place numbers s))
  notes s x = changes-none 1 place.processes (suspected place numbers s)

  pub freshness_laws : (s : FreshnessState) (x : StepInput)
      → IsDetectorStep place (suspected place numbers s) (suspected place numbers (step_freshness place numbers s x).state) (nat_le 1 numbers.eta) (nat_le 1 numbers.eta) (step_freshness place numbers s x).actions
  freshness_laws s x = record { acts = acts s x; notes = notes s x; others = λ q h. inr (only_others (step_freshness place numbers s x).state q h); allowed = allowed s x; paced = refl; few = few s x }
