-- Machines that have a detector of a layer below other parts, and what one step makes of it.
use Rattle.detector_bounds.proofs.Words.{◌≡◌, ◌≢◌, ◌⊎◌, ℕ, ◌+◌, refl, sym, ap, ◌∙◌, subst, Bool, true, false, cond, List, [], ◌∷◌, inl, inr, cases_eq, cases_Bool, notes_of_layer, Answer, still, Processes, changes, Action, Key, Payload, StepInput, Tag, changes-none, Setting, has_crashed, IsIn, World, made, taken, opening, in_left, by_receiver, process_at, process_other}
use Rattle.detector_bounds.proofs.Above.{IsFollowed, IsOwnTag, IsOwnLetter, wakes_are, letters_are}
use Rattle.detector_bounds.proofs.Added.{wakes_of, WakesIn, WakeComes, added_wake, wake_comes, one_wake, LetterCame, added_letter, Delivers, LetterComes, letter_comes, OwnComes, own_comes}
use Rattle.std.specs.FinSet as set
use Rattle.process_api.specs.declared.action.Action.TheVariants as action
use Rattle.process_api.specs.declared.message.StepInput.TheVariants as input
use Rattle.trace_laws.specs.Step.{Event, Process, Made, noted, added, dead, made_by}

-- Each mind has a part, the state of a detector, which takes every input of its process; what stands above acts after it
pub record RunsDetector {Mind D : Type 0} (layer : ℕ) (S : Setting Mind) (opening : D) (step : (p : ℕ) → D → (now : ℕ) → StepInput → Answer D) (suspects : ℕ → D → Processes) : Type 1 where
  pub part : Mind → D
  -- whether a mind of a process has such a part
  pub has : ℕ → Mind → Type 0
  pub opens : (p : ℕ) → has p (S.opening p)
  pub opens_with : (p : ℕ) → part (S.opening p) ≡ opening
  pub keeps : (p : ℕ) (mind : Mind) (now : ℕ) (x : StepInput) → has p mind → has p (S.react mind now x).state
  pub state : (p : ℕ) (mind : Mind) (now : ℕ) (x : StepInput) → has p mind → part (S.react mind now x).state ≡ (step p (part mind) now x).state
  pub acts : (p : ℕ) (mind : Mind) (now : ℕ) (x : StepInput) → has p mind → IsFollowed layer (step p (part mind) now x).actions (S.react mind now x).actions
  -- it suspects nobody at first, and notes just how its suspects change
  pub trusts : (p q : ℕ) → set.contains (suspects p opening) q ≡ false
  pub tells : (p : ℕ) (d : D) (now : ℕ) (x : StepInput) → notes_of_layer layer (step p d now x).actions ≡ changes layer S.processes (suspects p d) (suspects p (step p d now x).state)

module _ {Mind D : Type 0} {layer : ℕ} (S : Setting Mind) (first : D) (step : (p : ℕ) → D → (now : ℕ) → StepInput → Answer D) (suspects : ℕ → D → Processes) (R : RunsDetector layer S first step suspects) where
  -- the state of a process's detector
  abbrev pub state_of : World Mind → ℕ → D
  state_of w p = R.part (w.process p).mind

  abbrev pub HasAll : World Mind → Type 0
  HasAll w = (p : ℕ) → R.has p (w.process p).mind

  pub opening_has : HasAll (opening S)
  opening_has p = R.opens p

  -- one step
  module _ (w : World Mind) (key : Key) (x : StepInput) (all : HasAll w) where
    abbrev pub is_down : Bool
    is_down = has_crashed (S.crash key.receiver) key.tick

    abbrev answered : Answer Mind
    answered = S.react (w.process key.receiver).mind key.tick x

    abbrev made_or : Bool → Made S
    made_or b = cond b (record { process = w.process key.receiver; entry = dead key; added = [] }) (made_by S (w.process key.receiver) key x answered)

    -- what the detector does, and all that the process does: nothing if it has crashed
    abbrev own_or : Bool → Answer D
    own_or b = cond b (still (state_of w key.receiver)) (step key.receiver (state_of w key.receiver) key.tick x)

    abbrev acts_or : Bool → List Action
    acts_or b = cond b [] answered.actions

    abbrev pub own : Answer D
    own = own_or is_down

    abbrev pub acts : List Action
    acts = acts_or is_down

    pub followed : IsFollowed layer own.actions acts
    followed = elim is_down as (λ b. IsFollowed layer (own_or b).actions (acts_or b)) [
      | true ↦ record { more = []; above = tt; whole = refl }
      | false ↦ R.acts key.receiver (w.process key.receiver).mind key.tick x (all key.receiver)
    ]

    made_state : R.part (made S w key x).process.mind ≡ own.state
    made_state = elim is_down as (λ b. R.part (made_or b).process.mind ≡ (own_or b).state) [ true ↦ refl | false ↦ R.state key.receiver (w.process key.receiver).mind key.tick x (all key.receiver) ]

    made_has : R.has key.receiver (made S w key x).process.mind
    made_has = elim is_down as (λ b. R.has key.receiver (made_or b).process.mind) [ true ↦ all key.receiver | false ↦ R.keeps key.receiver (w.process key.receiver).mind key.tick x (all key.receiver) ]

    pub added_is : (made S w key x).added ≡ added S key.receiver key.tick (w.process key.receiver).counts acts
    added_is = elim is_down as (λ b. (made_or b).added ≡ added S key.receiver key.tick (w.process key.receiver).counts (acts_or b)) [ true ↦ refl | false ↦ refl ]

    pub notes_is : (made S w key x).entry.notes ≡ noted acts
    notes_is = elim is_down as (λ b. (made_or b).entry.notes ≡ noted (acts_or b)) [ true ↦ refl | false ↦ refl ]

    pub key_is : (made S w key x).entry.key ≡ key
    key_is = elim is_down as (λ b. (made_or b).entry.key ≡ key) [ true ↦ refl | false ↦ refl ]

    pub has_next : HasAll (taken S w key x)
    has_next = by_receiver S w key x (λ p z. R.has p z.mind) made_has (λ p other. all p)

    pub state_at : state_of (taken S w key x) key.receiver ≡ own.state
    state_at = ap (λ (z : Process Mind). R.part z.mind) (process_at S w key x) ∙ made_state

    pub state_other : (p : ℕ) → p ≢ key.receiver → state_of (taken S w key x) p ≡ state_of w p
    state_other p other = ap (λ (z : Process Mind). R.part z.mind) (process_other S w key x p other)

    -- what it notes is how its suspects change
    pub own_tells : notes_of_layer layer own.actions ≡ changes layer S.processes (suspects key.receiver (state_of w key.receiver)) (suspects key.receiver own.state)
    own_tells = elim is_down as (λ b. notes_of_layer layer (own_or b).actions ≡ changes layer S.processes (suspects key.receiver (state_of w key.receiver)) (suspects key.receiver (own_or b).state)) [
      | true ↦ changes-none layer S.processes (suspects key.receiver (state_of w key.receiver))
      | false ↦ R.tells key.receiver (state_of w key.receiver) key.tick x
    ]

    -- while the process is up, the detector takes the input
    pub own_up : has_crashed (S.crash key.receiver) key.tick ≡ false → own ≡ step key.receiver (state_of w key.receiver) key.tick x
    own_up up = ap own_or up

    pub own_down : has_crashed (S.crash key.receiver) key.tick ≡ true → own ≡ still (state_of w key.receiver)
    own_down down = ap own_or down

    -- a process's detector takes the input, or stays as it is: the step is another's, or the process has crashed
    pub moved : (p : ℕ) → (((p ≢ key.receiver) ⊎ (has_crashed (S.crash key.receiver) key.tick ≡ true)) × (state_of (taken S w key x) p ≡ state_of w p))
        ⊎ (((p ≡ key.receiver) × (has_crashed (S.crash key.receiver) key.tick ≡ false)) × (state_of (taken S w key x) p ≡ (step p (state_of w p) key.tick x).state))
    moved p = elim (cases_eq p key.receiver) [
      | inr other ↦ inl (inl other, state_other p other)
      | inl at ↦ elim (cases_Bool (has_crashed (S.crash key.receiver) key.tick)) [
        | inl down ↦ inl (inr down, ap (state_of (taken S w key x)) at ∙ (state_at ∙ (ap (λ (a : Answer D). a.state) (own_down down) ∙ ap (state_of w) (sym at))))
        | inr up ↦ inr ((at, up), ap (state_of (taken S w key x)) at ∙ (state_at ∙ (ap (λ (a : Answer D). a.state) (own_up up) ∙ (λ i. (step (sym at i) (state_of w (sym at i)) key.tick x).state))))
      ]
    ]

    -- ---- the detector's wakes and letters among the events that join

    pub wake_new : (tag : Tag) → IsOwnTag layer tag → (k : Key) → IsIn (k, input.Wake tag) (made S w key x).added → WakesIn S key.receiver key.tick (wakes_of tag own.actions) k
    wake_new tag is_own k i =
        subst (λ pauses. WakesIn S key.receiver key.tick pauses k) (wakes_are layer own.actions acts followed tag is_own)
        (added_wake S key.receiver key.tick (w.process key.receiver).counts acts k tag (subst (IsIn {X = Event} (k, input.Wake tag)) added_is i))

    pub wake_there : (tag : Tag) → IsOwnTag layer tag → (pause : ℕ) → IsIn pause (wakes_of tag own.actions) → WakeComes S key.receiver key.tick (made S w key x).added tag (key.tick + pause)
    wake_there tag is_own pause i =
        subst (λ events. WakeComes S key.receiver key.tick events tag (key.tick + pause)) (sym added_is)
        (wake_comes S key.receiver key.tick (w.process key.receiver).counts acts tag pause (subst (IsIn pause) (sym (wakes_are layer own.actions acts followed tag is_own)) i))

    pub wake_alone : (tag : Tag) → IsOwnTag layer tag → (pause : ℕ) → wakes_of tag own.actions ≡ pause ∷ [] → (k l : Key) → IsIn (k, input.Wake tag) (made S w key x).added → IsIn (l, input.Wake tag) (made S w key x).added → k ≡ l
    wake_alone tag is_own pause one k l i j =
        one_wake S key.receiver key.tick (w.process key.receiver).counts acts tag pause (wakes_are layer own.actions acts followed tag is_own ∙ one) k l
        (subst (IsIn {X = Event} (k, input.Wake tag)) added_is i) (subst (IsIn {X = Event} (l, input.Wake tag)) added_is j)

    pub letter_new : (y : Payload) → IsOwnLetter layer y → (k : Key) (s : ℕ) → IsIn (k, input.Letter s y) (made S w key x).added
        → (s ≡ key.receiver) × IsIn (action.Send k.receiver y) own.actions × (k.receiver ≢ key.receiver → LetterCame S key.receiver key.tick k)
    letter_new y is_own k s i =
        let r = added_letter S key.receiver key.tick (w.process key.receiver).counts acts k s y (subst (IsIn {X = Event} (k, input.Letter s y)) added_is i) in
        (r.0, letters_are layer own.actions acts followed k.receiver y is_own r.1, r.2)

    pub letter_there : (y : Payload) (to most : ℕ) → to ≢ key.receiver → Delivers S key.receiver key.tick to most → IsIn (action.Send to y) own.actions → LetterComes S key.receiver key.tick (made S w key x).added to most y
    letter_there y to most other delivers i =
        subst (λ events. LetterComes S key.receiver key.tick events to most y) (sym added_is)
        (letter_comes S key.receiver key.tick to most other delivers (w.process key.receiver).counts acts y (subst (IsIn (action.Send to y)) (sym followed.whole) (in_left _ own.actions followed.more i)))

    pub own_letter_there : (y : Payload) → IsIn (action.Send key.receiver y) own.actions → OwnComes S key.receiver key.tick (made S w key x).added y
    own_letter_there y i =
        subst (λ events. OwnComes S key.receiver key.tick events y) (sym added_is)
        (own_comes S key.receiver key.tick (w.process key.receiver).counts acts y (subst (IsIn (action.Send key.receiver y)) (sym followed.whole) (in_left _ own.actions followed.more i)))
