-- What one input makes of a detector with freshness points, part by part.
use Rattle.detector_bounds.proofs.Words.{◌≡◌, ◌⊎◌, ℕ, ◌+◌, ◌≤◌, inl, inr, refl, sym, ap, ◌∙◌, Bool, true, false, cond, ◌||◌, nat_le, List, [], ◌∷◌, ◌++◌, map, arith, cond_both, cases_eq, eq-eqb, ne_eqb, or_cases, leb-true, le-leb, or_left, or_right, Answer, still, others, Place, changes, Payload, StepInput, Tag, FreshnessNumbers, IsIn, in_append, in_left, of_image, in_image}
use Rattle.detector_bounds.proofs.{Added.{wakes_of, wakes_of-append}, Clock.{asked}}
use Rattle.process_api.specs.{Freshness.{FreshnessState, next, watches, suspected, noted, heartbeat_to_others, next_beat, next_check, checked, heard, step_freshness}, declared.action.Note.{Note}}
use Rattle.process_api.specs.declared.action.Action.TheVariants as action
use Rattle.process_api.specs.declared.message.Payload.TheVariants as payload
use Rattle.process_api.specs.declared.message.StepInput.TheVariants as input
use Rattle.process_api.specs.declared.message.Tag.TheVariants as tag

-- ---- letters and notes are no wakes, and notes no letters

pub no_wake_sent : (of : Tag) (what : Payload) (qs : List ℕ) → wakes_of of (map (λ q. action.Send q what) qs) ≡ []
no_wake_sent of what [] = refl
no_wake_sent of what (q ∷ qs) = no_wake_sent of what qs

pub no_wake_noted : (of : Tag) (notes : List Note) → wakes_of of (map action.Note notes) ≡ []
no_wake_noted of [] = refl
no_wake_noted of (x ∷ notes) = no_wake_noted of notes

pub nothing_sent : (to : ℕ) (y : Payload) (notes : List Note) → ¬ (IsIn (action.Send to y) (map action.Note notes))
nothing_sent to y [] none = none
nothing_sent to y (x ∷ notes) (inl e) = cc e
nothing_sent to y (x ∷ notes) (inr i) = nothing_sent to y notes i

module _ (place : Place) (its : FreshnessNumbers) where
  -- of a heartbeat: it is heard, or isn't of a watched process
  by_heartbeat : (d : FreshnessState) (q j : ℕ) (P : Answer FreshnessState → Type 0)
      → (watches place its q ≡ true → P (record { state = heard place its d q j; actions = noted place its d (heard place its d q j) })) → (watches place its q ≡ false → P (still d))
      → P (step_freshness place its d (input.Letter q (payload.Heartbeat j)))
  by_heartbeat d q j P watched other = cond_both (watches place its q) _ (still d) P watched other

  -- ---- its wakes

  pub asks_beats : (d : FreshnessState) (x : StepInput) → wakes_of tag.Beat (step_freshness place its d x).actions ≡ asked tag.Beat its.eta its.eta x
  asks_beats d input.Start = refl
  asks_beats d (input.Wake tag.Beat) = wakes_of-append tag.Beat (heartbeat_to_others place its (next d.sent)) (next_beat place its) ∙ ap (λ z. z ++ its.eta ∷ []) (no_wake_sent tag.Beat (payload.Heartbeat (next d.sent)) (others place.processes place.own))
  asks_beats d (input.Wake tag.Check) = wakes_of-append tag.Beat (noted place its d (checked place its d)) (next_check place its) ∙ ap (λ z. z ++ []) (no_wake_noted tag.Beat (changes 1 place.processes (suspected place its d) (suspected place its (checked place its d))))
  asks_beats d (input.Letter q (payload.Heartbeat j)) = by_heartbeat d q j (λ a. wakes_of tag.Beat a.actions ≡ []) (λ _. no_wake_noted tag.Beat (changes 1 place.processes (suspected place its d) (suspected place its (heard place its d q j)))) (λ _. refl)
  asks_beats d x = refl

  pub asks_checks : (d : FreshnessState) (x : StepInput) → wakes_of tag.Check (step_freshness place its d x).actions ≡ asked tag.Check (its.eta + its.delta) its.eta x
  asks_checks d input.Start = refl
  asks_checks d (input.Wake tag.Beat) = wakes_of-append tag.Check (heartbeat_to_others place its (next d.sent)) (next_beat place its) ∙ ap (λ z. z ++ []) (no_wake_sent tag.Check (payload.Heartbeat (next d.sent)) (others place.processes place.own))
  asks_checks d (input.Wake tag.Check) = wakes_of-append tag.Check (noted place its d (checked place its d)) (next_check place its) ∙ ap (λ z. z ++ its.eta ∷ []) (no_wake_noted tag.Check (changes 1 place.processes (suspected place its d) (suspected place its (checked place its d))))
  asks_checks d (input.Letter q (payload.Heartbeat j)) = by_heartbeat d q j (λ a. wakes_of tag.Check a.actions ≡ []) (λ _. no_wake_noted tag.Check (changes 1 place.processes (suspected place its d) (suspected place its (heard place its d q j)))) (λ _. refl)
  asks_checks d x = refl

  -- ---- how many heartbeats it sent and how many points it reached

  abbrev pub sent_after : StepInput → ℕ → ℕ
  sent_after (input.Wake tag.Beat) sent = next sent
  sent_after x sent = sent

  abbrev pub reached_after : StepInput → ℕ → ℕ
  reached_after (input.Wake tag.Check) reached = next reached
  reached_after x reached = reached

  pub sent_is : (d : FreshnessState) (x : StepInput) → (step_freshness place its d x).state.sent ≡ sent_after x d.sent
  sent_is d input.Start = refl
  sent_is d (input.Wake tag.Beat) = refl
  sent_is d (input.Wake tag.Check) = refl
  sent_is d (input.Wake tag.Share) = refl
  sent_is d (input.Letter q (payload.Heartbeat j)) = by_heartbeat d q j (λ a. a.state.sent ≡ d.sent) (λ _. refl) (λ _. refl)
  sent_is d (input.Letter q y) = refl

  pub reached_is : (d : FreshnessState) (x : StepInput) → (step_freshness place its d x).state.reached ≡ reached_after x d.reached
  reached_is d input.Start = refl
  reached_is d (input.Wake tag.Beat) = refl
  reached_is d (input.Wake tag.Check) = refl
  reached_is d (input.Wake tag.Share) = refl
  reached_is d (input.Letter q (payload.Heartbeat j)) = by_heartbeat d q j (λ a. a.state.reached ≡ d.reached) (λ _. refl) (λ _. refl)
  reached_is d (input.Letter q y) = refl

  -- ---- which heartbeats came

  module _ (d : FreshnessState) (p j : ℕ) where
    -- one that came had come, or comes by this letter
    abbrev CameBy : StepInput → Type 0
    CameBy x = (d.came p j ≡ true) ⊎ ((i : ℕ) × (x ≡ input.Letter p (payload.Heartbeat i)) × (j ≤ i))

    heard_from : (q i : ℕ) → (heard place its d q i).came p j ≡ true → CameBy (input.Letter q (payload.Heartbeat i))
    heard_from q i = elim (cases_eq p q) [
      | inl same ↦ λ h. elim (or_cases (nat_le j i) (d.came q j) (sym (ap (λ b. cond {A = ℕ → Bool} b (λ k. nat_le k i || d.came q k) (d.came p) j) (eq-eqb p q same)) ∙ h)) [
        | inl low ↦ inr (i, ap (λ z. input.Letter z (payload.Heartbeat i)) (sym same), leb-true j i low)
        | inr came ↦ inl (ap (λ z. d.came z j) same ∙ came)
      ]
      | inr other ↦ λ h. inl (sym (ap (λ b. cond {A = ℕ → Bool} b (λ k. nat_le k i || d.came q k) (d.came p) j) (ne_eqb p q other)) ∙ h)
    ]

    pub came_from : (x : StepInput) → (step_freshness place its d x).state.came p j ≡ true → CameBy x
    came_from input.Start h = inl h
    came_from (input.Wake tag.Beat) h = inl h
    came_from (input.Wake tag.Check) h = inl h
    came_from (input.Wake tag.Share) h = inl h
    came_from (input.Letter q (payload.Heartbeat i)) h = by_heartbeat d q i (λ a. a.state.came p j ≡ true → CameBy (input.Letter q (payload.Heartbeat i))) (λ _. heard_from q i) (λ _ old. inl old) h
    came_from (input.Letter q y) h = inl h

    -- who came stays
    heard_stays : (q i : ℕ) → d.came p j ≡ true → (heard place its d q i).came p j ≡ true
    heard_stays q i h = elim (cases_eq p q) [
      | inl same ↦ ap (λ b. cond {A = ℕ → Bool} b (λ k. nat_le k i || d.came q k) (d.came p) j) (eq-eqb p q same) ∙ or_right (nat_le j i) (d.came q j) (ap (λ z. d.came z j) (sym same) ∙ h)
      | inr other ↦ ap (λ b. cond {A = ℕ → Bool} b (λ k. nat_le k i || d.came q k) (d.came p) j) (ne_eqb p q other) ∙ h
    ]

    pub came_stays : (x : StepInput) → d.came p j ≡ true → (step_freshness place its d x).state.came p j ≡ true
    came_stays input.Start h = h
    came_stays (input.Wake tag.Beat) h = h
    came_stays (input.Wake tag.Check) h = h
    came_stays (input.Wake tag.Share) h = h
    came_stays (input.Letter q (payload.Heartbeat i)) h = by_heartbeat d q i (λ a. a.state.came p j ≡ true) (λ _. heard_stays q i h) (λ _. h)
    came_stays (input.Letter q y) h = h

    -- and a letter of a watched process comes
    pub came_now : watches place its p ≡ true → (step_freshness place its d (input.Letter p (payload.Heartbeat j))).state.came p j ≡ true
    came_now watched = by_heartbeat d p j (λ a. a.state.came p j ≡ true)
        (λ _. ap (λ b. cond {A = ℕ → Bool} b (λ k. nat_le k j || d.came p k) (d.came p) j) (eq-eqb p p refl) ∙ or_left (nat_le j j) (d.came p j) (le-leb j j (omega arith)))
        (λ not_watched. absurd (cc (watched, not_watched)))

  -- ---- which heartbeats it sends

  pub sends : (d : FreshnessState) (x : StepInput) (to i : ℕ) → IsIn (action.Send to (payload.Heartbeat i)) (step_freshness place its d x).actions → (x ≡ input.Wake tag.Beat) × (i ≡ next d.sent)
  sends d input.Start to i (inl e) = absurd (cc e)
  sends d input.Start to i (inr (inl e)) = absurd (cc e)
  sends d input.Start to i (inr (inr none)) = absurd none
  sends d (input.Wake tag.Beat) to i h = elim (in_append _ (heartbeat_to_others place its (next d.sent)) (next_beat place its) h) [
    | inl sent ↦ let r = of_image (λ q. action.Send q (payload.Heartbeat (next d.sent))) (others place.processes place.own) (action.Send to (payload.Heartbeat i)) sent in (refl, cc r.2)
    | inr (inl e) ↦ absurd (cc e)
    | inr (inr none) ↦ absurd none
  ]
  sends d (input.Wake tag.Check) to i h = elim (in_append _ (noted place its d (checked place its d)) (next_check place its) h) [
    | inl sent ↦ absurd (nothing_sent to (payload.Heartbeat i) (changes 1 place.processes (suspected place its d) (suspected place its (checked place its d))) sent)
    | inr (inl e) ↦ absurd (cc e)
    | inr (inr none) ↦ absurd none
  ]
  sends d (input.Letter q (payload.Heartbeat j)) to i h =
      absurd (by_heartbeat d q j (λ a. IsIn (action.Send to (payload.Heartbeat i)) a.actions → ⊥) (λ _. nothing_sent to (payload.Heartbeat i) (changes 1 place.processes (suspected place its d) (suspected place its (heard place its d q j)))) (λ _ none. none) h)
  sends d x to i none = absurd none

  pub sends_beat : (d : FreshnessState) (to : ℕ) → IsIn to (others place.processes place.own) → IsIn (action.Send to (payload.Heartbeat (next d.sent))) (step_freshness place its d (input.Wake tag.Beat)).actions
  sends_beat d to i = in_left _ (heartbeat_to_others place its (next d.sent)) (next_beat place its) (in_image (λ q. action.Send q (payload.Heartbeat (next d.sent))) (others place.processes place.own) to i)
