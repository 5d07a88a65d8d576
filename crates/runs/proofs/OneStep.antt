-- Letters of one step, and the events that they become.
use Rattle.runs.proofs.Words.{◌≡◌, ◌≢◌, ℕ, ◌+◌, ◌<◌, inl, inr, refl, sym, ap, ◌∙◌, subst, Bool, true, false, cond, List, [], ◌∷◌, arith, ◌==◌, lt-ltb, Action, Key, StepInput, Fate, IsIn, Posted, posting, posted_by, posted_in, Setting, has_crashed, Event, Process, Made, in_time, by_fate, counted, joining, added, step, made_by, dead, kind_of, in_append, in_left, in_right, in_time_is}
use Rattle.process_api.specs.declared.{action.Action.TheVariants.{Send, Wake, Note}, message.Payload.{Payload}}
use Rattle.process_api.specs.declared.entry.Kind.TheVariants as kind
use Rattle.process_api.specs.declared.message.StepInput.TheVariants as input
use Rattle.streams.specs.declared.fate.Fate.TheVariants as link

-- the event that a letter becomes so many ticks after it was sent
abbrev pub event_of : Posted → ℕ → Event
event_of l ticks = (record l.key { tick = l.key.tick + ticks }, input.Letter l.key.sender l.payload)

module _ {Mind : Type 0} (S : Setting Mind) where
  -- a letter becomes this event below the horizon
  abbrev pub Becomes : Posted → Event → Type 0
  Becomes l e = (ticks : ℕ) × (l.fate ≡ link.Delay ticks) × (l.key.tick + ticks < S.horizon) × (e ≡ event_of l ticks)

  in_time_there : (key : Key) (x : StepInput) → key.tick < S.horizon → IsIn {X = Event} (key, x) (in_time S.horizon key x)
  in_time_there key x below = subst (λ b. IsIn {X = Event} (key, x) (cond b ((key, x) ∷ []) [])) (sym (lt-ltb key.tick S.horizon below)) (inl refl)

  module _ (p now : ℕ) where
    -- the key of the next letter on the link to a process, that letter, and the events by a letter to oneself or another
    abbrev next_key : (ℕ → ℕ) → ℕ → Key
    next_key counts to = record { tick = now; receiver = to; sender = p; number = counts to + 1 }

    abbrev next_letter : (ℕ → ℕ) → ℕ → Payload → Posted
    next_letter counts to payload = record { key = next_key counts to; payload = payload; fate = S.fate p to (counts to + 1) now }

    abbrev to_itself : (ℕ → ℕ) → Payload → List Event
    to_itself counts payload = in_time S.horizon (record { tick = now + 1; receiver = p; sender = p; number = counts p + 1 }) (input.Letter p payload)

    abbrev to_other : (ℕ → ℕ) → ℕ → Fate → Payload → List Event
    to_other counts to f payload = by_fate S.horizon f (next_key counts to) (input.Letter p payload)

    one_joins : (counts : ℕ → ℕ) (a : Action) (l : Posted) → IsIn l (posting S p now counts a) → (e : Event) → Becomes l e → IsIn e (joining S p now counts a)
    one_joins counts (Send to payload) l i e (ticks, slow, below, is) =
        elim (to == p) as (λ b. IsIn l (cond b [] (next_letter counts to payload ∷ [])) → IsIn e (cond b (to_itself counts payload) (to_other counts to (S.fate p to (counts to + 1) now) payload))) [
          | true ↦ λ none. absurd none
          | false ↦ λ j. elim j [ inl same ↦ there same | inr none ↦ absurd none ]
        ] i
      where
        there : l ≡ next_letter counts to payload
            → IsIn e (to_other counts to (S.fate p to (counts to + 1) now) payload)
        there same =
            let delay : S.fate p to (counts to + 1) now ≡ link.Delay ticks = sym (ap (λ (m : Posted). m.fate) same) ∙ slow in
            let at : l.key.tick ≡ now = ap (λ (m : Posted). m.key.tick) same in
            let becomes : e ≡ (record { tick = now + ticks; receiver = to; sender = p; number = counts to + 1 }, input.Letter p payload) = is ∙ (λ k. event_of (same k) ticks) in
            subst (λ f. IsIn e (to_other counts to f payload)) (sym delay)
            (subst (λ d. IsIn d (in_time S.horizon (record { tick = now + ticks; receiver = to; sender = p; number = counts to + 1 }) (input.Letter p payload))) (sym becomes)
            (in_time_there _ _ (omega (arith, below, at))))
    one_joins counts (Wake pause tag) l i e becomes = absurd i
    one_joins counts (Note note) l i e becomes = absurd i

    one_posted : (counts : ℕ → ℕ) (a : Action) (e : Event) → IsIn e (joining S p now counts a) → e.0.sender ≢ e.0.receiver → (l : Posted) × IsIn l (posting S p now counts a) × Becomes l e
    one_posted counts (Send to payload) e i apart = go (to == p) i
      where
        by : (f : Fate) → S.fate p to (counts to + 1) now ≡ f → IsIn e (to_other counts to f payload)
            → (l : Posted) × IsIn l (next_letter counts to payload ∷ []) × Becomes l e
        by link.Lost is none = absurd none
        by (link.Delay ticks) is j =
            let d = in_time_is S _ _ e j in
            (next_letter counts to payload, inl refl, (ticks, is, d.1, d.0))

        go : (b : Bool) → IsIn e (cond b (to_itself counts payload)
            (to_other counts to (S.fate p to (counts to + 1) now) payload))
            → (l : Posted) × IsIn l (cond b [] (next_letter counts to payload ∷ [])) × Becomes l e
        go true j = let d = in_time_is S _ _ e j in absurd (apart (ap (λ (f : Event). f.0.sender) d.0 ∙ sym (ap (λ (f : Event). f.0.receiver) d.0)))
        go false j = by (S.fate p to (counts to + 1) now) refl j
    one_posted counts (Wake pause tag) e i apart =
        let d = in_time_is S _ _ e i in absurd (apart (ap (λ (f : Event). f.0.sender) d.0 ∙ sym (ap (λ (f : Event). f.0.receiver) d.0)))
    one_posted counts (Note note) e i apart = absurd i

    all_join : (counts : ℕ → ℕ) (actions : List Action) (l : Posted) → IsIn l (posted_by S p now counts actions) → (e : Event) → Becomes l e → IsIn e (added S p now counts actions)
    all_join counts [] l i e becomes = absurd i
    all_join counts (a ∷ actions) l i e becomes = elim (in_append l (posting S p now counts a) (posted_by S p now (counted p counts a) actions) i) [
      | inl j ↦ in_left e (joining S p now counts a) (added S p now (counted p counts a) actions) (one_joins counts a l j e becomes)
      | inr j ↦ in_right e (joining S p now counts a) (added S p now (counted p counts a) actions) (all_join (counted p counts a) actions l j e becomes)
    ]

    all_posted : (counts : ℕ → ℕ) (actions : List Action) (e : Event) → IsIn e (added S p now counts actions) → e.0.sender ≢ e.0.receiver → (l : Posted) × IsIn l (posted_by S p now counts actions) × Becomes l e
    all_posted counts [] e i apart = absurd i
    all_posted counts (a ∷ actions) e i apart = elim (in_append e (joining S p now counts a) (added S p now (counted p counts a) actions) i) [
      | inl j ↦ let m = one_posted counts a e j apart in (m.0, in_left m.0 (posting S p now counts a) (posted_by S p now (counted p counts a) actions) m.1, m.2)
      | inr j ↦
          let m = all_posted (counted p counts a) actions e j apart in
          (m.0, in_right m.0 (posting S p now counts a) (posted_by S p now (counted p counts a) actions) m.1, m.2)
    ]

  -- the same of a whole step, in which the process may have crashed
  module _ (before : Process Mind) (key : Key) (x : StepInput) where
    -- what a step makes, and the letters that it posts
    pub step_cases : (P : Made S → List Posted → Type 0) → P (record { process = before; entry = dead key; added = [] }) []
        → P (made_by S before key x (S.react before.mind key.tick x)) (posted_by S key.receiver key.tick before.counts (S.react before.mind key.tick x).actions)
        → P (step S before key x) (posted_in S before key x)
    step_cases P down up =
        elim (has_crashed (S.crash key.receiver) key.tick) as (λ b. P (cond b (record { process = before; entry = dead key; added = [] }) (made_by S before key x (S.react before.mind key.tick x)))
        (cond b [] (posted_by S key.receiver key.tick before.counts (S.react before.mind key.tick x).actions))) [ true ↦ down | false ↦ up ]

    -- the letters that are due below the horizon join
    pub step_joins : (l : Posted) → IsIn l (posted_in S before key x) → (e : Event) → Becomes l e → IsIn e (step S before key x).added
    step_joins l i e becomes =
        step_cases (λ m posted. IsIn l posted → IsIn e m.added) (λ none. absurd none)
        (λ j. all_join key.receiver key.tick before.counts (S.react before.mind key.tick x).actions l j e becomes) i

    -- what joins at another process is one of them
    pub step_posted : (e : Event) → IsIn e (step S before key x).added → e.0.sender ≢ e.0.receiver → (l : Posted) × IsIn l (posted_in S before key x) × Becomes l e
    step_posted e i apart =
        step_cases (λ m posted. IsIn e m.added → (l : Posted) × IsIn l posted × Becomes l e) (λ none. absurd none)
        (λ j. all_posted key.receiver key.tick before.counts (S.react before.mind key.tick x).actions e j apart) i

    -- the kind of a step's entry
    pub step_kind : (step S before key x).entry.kind ≡ cond (has_crashed (S.crash key.receiver) key.tick) kind.Dead (kind_of x)
    step_kind =
        elim (has_crashed (S.crash key.receiver) key.tick) as (λ b. (cond b (record { process = before; entry = dead key; added = [] }) (made_by S before key x (S.react before.mind key.tick x))).entry.kind ≡ cond b kind.Dead (kind_of x)) [
          | true ↦ refl
          | false ↦ refl
        ]
