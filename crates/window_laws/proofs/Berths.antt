-- A run of a berth, event by event.
use Rattle.window_laws.proofs.Words.{◌≡◌, ℕ, ◌<◌, arith, length, refl, sym, ap, ◌∙◌, subst, List, [], ◌∷◌, ◌++◌, append_assoc, append-nil, nat_eq, ⊎_elim, eqb-true, length-map, map-append, EntryRecord, Key, StepInput, Setting, Event, Events, Process, step, step_key, joined_cases, removed, least_is_one, one_input, for_self, for_others, BerthRun}
use Rattle.window_laws.proofs.Unions.{in_filter}
use Rattle.std.specs.FinMap as events
use Rattle.trace_laws.specs.World.{Pair, Has, IsLeast, NoneBelow, joined, entries}

module _ {Mind : Type 0} (S : Setting Mind) (p end : ℕ) where
  -- a run of a berth that may not be over yet
  abbrev pub BerthSoFar : Process Mind → Events → List Pair → Process Mind → Events → List Event → Type 0
  BerthSoFar before own [] after rest letters = (after ≡ before) × (rest ≡ own) × (letters ≡ [])
  BerthSoFar before own (s ∷ history) after rest letters =
      IsLeast own s.0.key s.1 × (s.0.key.tick < end) × (s.0 ≡ (step S before s.0.key s.1).entry)
      × (more : List Event) × (letters ≡ for_others p (step S before s.0.key s.1).added ++ more)
      × BerthSoFar (step S before s.0.key s.1).process (joined (events.remove own s.0.key) (for_self p (step S before s.0.key s.1).added)) history after rest more

  -- it is over where no event is left below its end
  so_far_ends : (history : List Pair) (before : Process Mind) (own : Events) (after : Process Mind) (rest : Events) (letters : List Event)
      → BerthSoFar before own history after rest letters → NoneBelow end rest → BerthRun S p end before own history after rest letters
  so_far_ends [] before own after rest letters run none = (subst (NoneBelow end) run.1 none, run.0, run.1, run.2)
  so_far_ends (s ∷ history) before own after rest letters run none = (run.0, run.1, run.2, run.3, run.4, so_far_ends history _ _ after rest run.3 run.5 none)

  module _ (now : Process Mind) (pending : Events) (key : Key) (input : StepInput) (least : IsLeast pending key input) (due : key.tick < end) where
    abbrev next : Process Mind
    next = (step S now key input).process

    abbrev left : Events
    left = joined (events.remove pending key) (for_self p (step S now key input).added)

    abbrev sent : List Event
    sent = for_others p (step S now key input).added

    one_more : (history : List Pair) (before : Process Mind) (own : Events) (letters : List Event) → BerthSoFar before own history now pending letters
        → BerthSoFar before own (history ++ ((step S now key input).entry, input) ∷ []) next left (letters ++ sent)
    one_more [] before own letters (is, was, none) =
        subst (λ (l : List Event). BerthSoFar before own (((step S now key input).entry, input) ∷ []) next left (l ++ sent)) (sym none)
        (subst (λ (c : Process Mind × Events). BerthSoFar c.0 c.1 (((step S now key input).entry, input) ∷ []) next left sent) (λ i. (is i, was i))
        (subst (λ k. IsLeast pending k input × (k.tick < end) × ((step S now key input).entry ≡ (step S now k input).entry)
        × (more : List Event) × (sent ≡ for_others p (step S now k input).added ++ more)
        × ((next ≡ (step S now k input).process) × (left ≡ joined (events.remove pending k) (for_self p (step S now k input).added)) × (more ≡ [])))
        (sym (step_key S now key input)) (least, due, refl, [], sym (append-nil sent), (refl, refl, refl))))
    one_more (s ∷ history) before own letters run =
        (run.0, run.1, run.2, run.3 ++ sent, ap (λ l. l ++ sent) run.4 ∙ append_assoc _ run.3 sent, one_more history _ _ run.3 run.5)

    -- every run makes one more pair than those so far
    longer : (history all : List Pair) (before : Process Mind) (own : Events) (letters : List Event) (after : Process Mind) (rest : Events) (last : List Event)
        → BerthSoFar before own history now pending letters → BerthRun S p end before own all after rest last → length history < length all
    longer [] [] before own letters after rest last so_far run = let far = run.0 key input (subst (λ m. Has m key input) so_far.1 least.there) in absurd (omega arith)
    longer [] (t ∷ all) before own letters after rest last so_far run = omega arith
    longer (s ∷ history) [] before own letters after rest last so_far run = let far = run.0 s.0.key s.1 so_far.0.there in let near = so_far.1 in absurd (omega arith)
    longer (s ∷ history) (t ∷ all) before own letters after rest last so_far run =
        let keys : t.0.key ≡ s.0.key = least_is_one own t.0.key s.0.key t.1 s.1 run.0 so_far.0 in
        let inputs : t.1 ≡ s.1 = one_input own s.0.key t.1 s.1 (subst (λ k. Has own k t.1) keys run.0.there) so_far.0.there in
        let more = longer history all _ _ so_far.3 after rest run.3 so_far.5
        (subst (λ (z : Key × StepInput). BerthRun S p end (step S before z.0 z.1).process (joined (events.remove own z.0) (for_self p (step S before z.0 z.1).added)) all after rest run.3) (λ i. (keys i, inputs i)) run.5) in
        omega arith

  -- a berth came from its opening so far, by these entries and letters, and what is pending is its own
  pub record BerthStands (start : Process Mind) (opened : Events) (now : Process Mind) (pending : Events) (part : List EntryRecord) (letters : List Event) : Type 0 where
    pub history : List Pair
    pub part_is : part ≡ entries history
    pub so_far : BerthSoFar start opened history now pending letters
    pub own : (key : Key) (input : StepInput) → Has pending key input → key.receiver ≡ p

  module _ (start : Process Mind) (opened : Events) where
    pub berth_opens : ((key : Key) (input : StepInput) → Has opened key input → key.receiver ≡ p) → BerthStands start opened start opened [] []
    berth_opens own = record { history = []; part_is = refl; so_far = (refl, refl, refl); own = own }

    pub berth_ends : (now : Process Mind) (pending : Events) (part : List EntryRecord) (letters : List Event) → (was : BerthStands start opened now pending part letters) → NoneBelow end pending → BerthRun S p end start opened was.history now pending letters
    berth_ends now pending part letters was none = so_far_ends was.history start opened now pending letters was.so_far none

    module _ (now : Process Mind) (pending : Events) (part : List EntryRecord) (letters : List Event) (was : BerthStands start opened now pending part letters)
        (key : Key) (input : StepInput) (least : IsLeast pending key input) (due : key.tick < end) where
      pub berth_longer : (all : List Pair) (after : Process Mind) (last : Events) (sent : List Event) → BerthRun S p end start opened all after last sent → length part < length all
      berth_longer all after last sent run =
          let more = longer now pending key input least due was.history all start opened letters after last sent was.so_far run in
          omega (arith, more, ap length was.part_is, length-map was.history (λ (t : Pair). t.0))

      pub berth_next : (now2 : Process Mind) (left2 : Events) (entry : EntryRecord) → now2 ≡ (step S now key input).process → left2 ≡ joined (events.remove pending key) (for_self p (step S now key input).added) → entry ≡ (step S now key input).entry
          → BerthStands start opened now2 left2 (part ++ entry ∷ []) (letters ++ for_others p (step S now key input).added)
      berth_next now2 left2 entry now_is left_is entry_is =
          let made = step S now key input in
          record {
            history = was.history ++ (made.entry, input) ∷ [];
            part_is = (λ i. was.part_is i ++ entry_is i ∷ []) ∙ sym (map-append (λ (t : Pair). t.0) was.history ((made.entry, input) ∷ []));
            so_far = subst (λ (z : Process Mind × Events). BerthSoFar start opened (was.history ++ (made.entry, input) ∷ []) z.0 z.1 (letters ++ for_others p made.added)) (λ i. (sym now_is i, sym left_is i))
                (one_more now pending key input least due was.history start opened letters was.so_far);
            own = λ q x h. ⊎_elim (λ i. eqb-true q.receiver p (in_filter (λ (e : Event). nat_eq e.0.receiver p) (q, x) made.added i).1) (λ old. was.own q x (removed pending key q x old).1)
                (joined_cases (for_self p made.added) (events.remove pending key) q x (subst (λ m. Has m q x) left_is h));
          }
