-- Every suspicion of layer 2 has an earlier one of layer 1: a set that is on its way was some base detector's, which had noted
-- each of its members.
use Rattle.judges.proofs.Words.{◌≡◌, ℕ, inl, inr, refl, sym, ap, ◌∙◌, subst, Bool, true, false, cond, List, [], ◌∷◌, ◌++◌, append_assoc, append-nil, ◌⊎◌, ◌≤◌, ◌&&◌, ◌==◌, nat_le, arith, fold, cases_eq, cond_both, leb-true, eqb-true, and_parts, Answer, EntryRecord, Processes, Action, Key, StepInput, IsIn, in_left, in_right, in_append, process_at, process_other, taken_cases, taken_world, opening_world, trace_rises, list_all, is_before, is_rising, Suspect, Trust, ticks_rise, IsInRange, Record, setting_of, setting_sound, Set, nobody, with, without, notes_until, after_note, out}
use Rattle.judges.proofs.{Letters.{added_letter, no_letter_first}, PartsActions.{IsSharing, IsShared, RunsReduction}, Members.{each_of}, Instances.{runs_reduction}, Order.{less_from}}
use Rattle.std.specs.FinSet as set
use Rattle.process_api.specs.declared.action.Action.TheVariants as action
use Rattle.process_api.specs.declared.action.Note.{Note}
use Rattle.process_api.specs.declared.action.Note.TheVariants as note
use Rattle.process_api.specs.declared.message.Payload.TheVariants as payload
use Rattle.process_api.specs.declared.message.StepInput.TheVariants as input
use Rattle.trace_laws.specs.{Setting.{Setting, IsSound, IsProcess, has_crashed}, Step.{Process, Made, noted, dead, made_by}, World.{World, Pair, Has, IsWorld, Run, made, taken, opening, entries, IsTrace}}
use Rattle.judges.specs.Out.{IsBlamedBy, SharesSuspicions}

-- some entry notes that its process suspects p on layer 1
abbrev pub IsBlamed : List EntryRecord → (p : ℕ) → Type 0
IsBlamed trace p = (e : EntryRecord) × IsIn e trace × IsIn (note.Suspect 1 p) e.notes

-- each entry that notes a suspicion of layer 2 stands behind one that notes it on layer 1
abbrev pub StandsBehind : List EntryRecord → Type 0
StandsBehind trace = (earlier : List EntryRecord) (e : EntryRecord) (later : List EntryRecord) → trace ≡ earlier ++ (e ∷ later)
    → (p : ℕ) → IsIn (note.Suspect 2 p) e.notes → IsBlamed earlier p

-- notes of a step are those of its actions
note_acted : (actions : List Action) (x : Note) → IsIn x (noted actions) → IsIn (action.Note x) actions
note_acted [] x none = absurd none
note_acted (action.Send to what ∷ actions) x i = inr (note_acted actions x i)
note_acted (action.Wake pause tag ∷ actions) x i = inr (note_acted actions x i)
note_acted (action.Note z ∷ actions) x (inl e) = inl (ap action.Note e)
note_acted (action.Note z ∷ actions) x (inr i) = inr (note_acted actions x i)

acted_note : (actions : List Action) (x : Note) → IsIn (action.Note x) actions → IsIn x (noted actions)
acted_note [] x none = absurd none
acted_note (action.Note z ∷ actions) x (inl e) = inl (cc)
acted_note (action.Note z ∷ actions) x (inr i) = inr (acted_note actions x i)
acted_note (a ∷ actions) x (inl e) = absurd (cc)
acted_note (a ∷ actions) x (inr i) = acted_note actions x i

module _ {Mind : Type 0} (S : Setting Mind) (sound : IsSound S) (R : RunsReduction S) where
  pub record Known (w : World Mind) (past : List EntryRecord) : Type 0 where
    pub is_world : IsWorld S w
    pub each : (p : ℕ) → IsProcess S p → (q : ℕ) → set.contains (R.suspects (w.process p).mind) q ≡ true → IsBlamed past q
    pub letters : (key : Key) (sender : ℕ) (members : Processes) → Has w.pending key (input.Letter sender (payload.Suspects members)) → (q : ℕ) → set.contains members q ≡ true → IsBlamed past q

  module _ (w : World Mind) (past : List EntryRecord) (k : Known w past) (key : Key) (x : StepInput) (there : Has w.pending key x) where
    abbrev answer : Answer Mind
    answer = S.react (w.process key.receiver).mind key.tick x

    abbrev made_or : Bool → Made S
    made_or b = cond b (record { process = w.process key.receiver; entry = dead key; added = [] }) (made_by S (w.process key.receiver) key x answer)

    abbrev crashed : Bool
    crashed = has_crashed (S.crash key.receiver) key.tick

    abbrev past_next : List EntryRecord
    past_next = past ++ (made S w key x).entry ∷ []

    is_process : IsProcess S key.receiver
    is_process = k.is_world.received key x there

    shared : IsShared x (R.suspects (w.process key.receiver).mind) (R.suspects answer.state) answer.actions
    shared = R.joins (w.process key.receiver).mind key.tick x

    up : (q : ℕ) → IsBlamed past q → IsBlamed past_next q
    up q b = (b.0, in_left b.0 past ((made S w key x).entry ∷ []) b.1, b.2)

    -- the detector suspects whom it has noted
    suspects_next : (q : ℕ) → set.contains (R.suspects (made S w key x).process.mind) q ≡ true → IsBlamed past_next q
    suspects_next q h =
        elim crashed as (λ b. set.contains (R.suspects (made_or b).process.mind) q ≡ true → IsBlamed (past ++ (made_or b).entry ∷ []) q) [
          | true ↦ λ old. before (made_or true).entry (k.each key.receiver is_process q old)
          | false ↦ λ new. elim (shared.noted q new) [
            | inl old ↦ before (made_or false).entry (k.each key.receiver is_process q old)
            | inr i ↦ ((made_or false).entry, in_right (made_or false).entry past ((made_or false).entry ∷ []) (inl refl), acted_note answer.actions (note.Suspect 1 q) i)
          ]
        ] h
      where
        before : (e : EntryRecord) → IsBlamed past q → IsBlamed (past ++ e ∷ []) q
        before e b = (b.0, in_left b.0 past (e ∷ []) b.1, b.2)

    each_next : (p : ℕ) → IsProcess S p → (q : ℕ) → set.contains (R.suspects ((taken S w key x).process p).mind) q ≡ true → IsBlamed past_next q
    each_next p is q h = elim (cases_eq p key.receiver) [
      | inl e ↦ suspects_next q (subst (λ (z : Process Mind). set.contains (R.suspects z.mind) q ≡ true) (ap (taken S w key x).process e ∙ process_at S w key x) h)
      | inr ne ↦ up q (k.each p is q (subst (λ (z : Process Mind). set.contains (R.suspects z.mind) q ≡ true) (process_other S w key x p ne) h))
    ]

    letters_next : (l : Key) (sender : ℕ) (members : Processes) → Has (taken S w key x).pending l (input.Letter sender (payload.Suspects members)) → (q : ℕ) → set.contains members q ≡ true → IsBlamed past_next q
    letters_next l sender members h q m = elim (taken_cases S w key x l (input.Letter sender (payload.Suspects members)) h) [
      | inl i ↦ suspects_next q (subst (λ z. set.contains z q ≡ true) (new crashed i) m)
      | inr old ↦ up q (k.letters l sender members old.1 q m)
    ]
      where
        -- a set that is sent is what the detector suspects
        new : (b : Bool) → IsIn (l, input.Letter sender (payload.Suspects members)) (made_or b).added → members ≡ R.suspects (made_or b).process.mind
        new true none = absurd none
        new false i =
            let sent = added_letter S key.receiver key.tick (w.process key.receiver).counts answer.actions l sender (payload.Suspects members) i in
            each_of (IsSharing x (R.suspects answer.state)) answer.actions shared.acts (action.Send sent.1 (payload.Suspects members)) sent.2

    known_next : Known (taken S w key x) past_next
    known_next = record { is_world = taken_world S w key x sound k.is_world there; each = each_next; letters = letters_next }

    -- whom the entry suspects on layer 2 was blamed before
    blamed_before : (q : ℕ) → IsIn (note.Suspect 2 q) (made S w key x).entry.notes → IsBlamed past q
    blamed_before q i = elim crashed as (λ b. IsIn (note.Suspect 2 q) (made_or b).entry.notes → IsBlamed past q) [
      | true ↦ λ none. absurd none
      | false ↦ λ j.
          let came = each_of (IsSharing x (R.suspects answer.state)) answer.actions shared.acts (action.Note (note.Suspect 2 q)) (note_acted answer.actions (note.Suspect 2 q) j) refl in
          k.letters key came.0 came.1 (subst (λ z. Has w.pending key z) came.2 there) q came.3
    ] i

  -- through a run: the front of what follows, or some entry after it
  run_blamed : (history : List Pair) (w last : World Mind) (past : List EntryRecord) → Known w past → Run S S.horizon w history last
      → (earlier : List EntryRecord) (e : EntryRecord) (later : List EntryRecord) → entries history ≡ earlier ++ (e ∷ later) → (q : ℕ) → IsIn (note.Suspect 2 q) e.notes → IsBlamed (past ++ earlier) q
  run_blamed [] w last past k run [] e later is q i = absurd (cc)
  run_blamed [] w last past k run (f ∷ earlier) e later is q i = absurd (cc)
  run_blamed (s ∷ rest) w last past k run [] e later is q i =
      let same : s.0 ≡ e = cc in
      subst (λ z. IsBlamed z q) (sym (append-nil past))
      (blamed_before w past k s.0.key s.1 run.0.there q (subst (λ (z : EntryRecord). IsIn (note.Suspect 2 q) z.notes) (sym same ∙ run.2) i))
  run_blamed (s ∷ rest) w last past k run (f ∷ earlier) e later is q i =
      let same : s.0 ≡ f = cc in
      let tails : entries rest ≡ earlier ++ (e ∷ later) = cc in
      let r = run_blamed rest (taken S w s.0.key s.1) last (past ++ (made S w s.0.key s.1).entry ∷ []) (known_next w past k s.0.key s.1 run.0.there) run.3 earlier e later tails q i in
      subst (λ z. IsBlamed z q) (append_assoc past ((made S w s.0.key s.1).entry ∷ []) earlier ∙ ap (λ z. past ++ (z ∷ earlier)) (sym run.2 ∙ same)) r

  opening_known : Known (opening S) []
  opening_known = record {
    is_world = opening_world S sound;
    each = λ p is q h. absurd (cc (h, R.opens p is q));
    letters = λ key sender members h. absurd (no_letter_first S.processes key sender (payload.Suspects members) h);
  }

  pub stands_behind : (trace : List EntryRecord) → IsTrace S trace → StandsBehind trace
  stands_behind trace (history, last, run, is) earlier e later same q i = run_blamed history (opening S) last [] opening_known run earlier e later (sym is ∙ same) q i

-- ---- who is suspected on layer 2 at a tick was suspected on layer 1 by then

module _ (layer p : ℕ) where
  one_noted : (before : Set) (note : Note) → after_note layer before note p ≡ true → (before p ≡ true) ⊎ (Suspect layer p ≡ note)
  one_noted before (Suspect l who) g = cond_both (l == layer) (with before who) before (λ (s : Set). s p ≡ true → (before p ≡ true) ⊎ (Suspect layer p ≡ Suspect l who))
      (λ is. cond_both (who == p) true (before p) (λ b. b ≡ true → (before p ≡ true) ⊎ (Suspect layer p ≡ Suspect l who))
      (λ same _. inr (λ i. Suspect (sym (eqb-true l layer is) i) (sym (eqb-true who p same) i))) (λ _ h. inl h)) (λ _ h. inl h) g
  one_noted before (Trust l who) g = inl (cond_both (l == layer) (without before who) before (λ (s : Set). s p ≡ true → before p ≡ true)
      (λ _. cond_both (who == p) false (before p) (λ b. b ≡ true → before p ≡ true) (λ _ h. absurd (cc h)) (λ _ h. h)) (λ _ h. h) g)
  one_noted before note g = inl g

  -- who is suspected after some notes was so before, or one of the notes suspects it
  suspected_noted : (notes : List Note) (before : Set) → fold (after_note layer) before notes p ≡ true → (before p ≡ true) ⊎ IsIn (Suspect layer p) notes
  suspected_noted [] before h = inl h
  suspected_noted (note ∷ notes) before h = elim (suspected_noted notes (after_note layer before note) h) [
    | inl g ↦ elim (one_noted before note g) [ inl was ↦ inl was | inr e ↦ inr (inl e) ]
    | inr i ↦ inr (inr i)
  ]

-- the entry of a note up to a tick
abbrev Placed : List EntryRecord → (t : ℕ) → Note → Type 0
Placed trace t note = (e : EntryRecord) × IsIn e trace × (e.key.tick ≤ t) × IsIn note e.notes

placed : (trace : List EntryRecord) (q t : ℕ) (note : Note) → IsIn note (notes_until trace q t) → Placed trace t note
placed [] q t note none = absurd none
placed (e ∷ trace) q t note i =
    cond_both (e.key.receiver == q && nat_le e.key.tick t) (e.notes ++ notes_until trace q t) (notes_until trace q t) (λ notes. IsIn note notes → Placed (e ∷ trace) t note)
    (λ is j. elim (in_append note e.notes (notes_until trace q t) j) [
      | inl here ↦ (e, inl refl, leb-true _ _ (and_parts _ _ is).1, here)
      | inr later ↦ after (placed trace q t note later)
    ])
    (λ _ j. after (placed trace q t note j)) i
  where
    after : Placed trace t note → Placed (e ∷ trace) t note
    after (f, there, low, noted) = (f, inr there, low, noted)

all_pass : {X : Type 0} (f : X → Bool) (xs : List X) → list_all f xs ≡ true → (x : X) → IsIn x xs → f x ≡ true
all_pass f [] all x none = absurd none
all_pass f (y ∷ xs) all x (inl e) = ap f e ∙ (and_parts _ _ all).0
all_pass f (y ∷ xs) all x (inr i) = all_pass f xs (and_parts _ _ all).1 x i

-- who stands before in a rising list has the earlier key
stands_before : (earlier : List EntryRecord) (e : EntryRecord) (later : List EntryRecord) → is_rising (earlier ++ (e ∷ later)) ≡ true → (f : EntryRecord) → IsIn f earlier → is_before f.key e.key ≡ true
stands_before [] e later rising f none = absurd none
stands_before (x ∷ earlier) e later rising f (inl same) =
    subst (λ (z : EntryRecord). is_before z.key e.key ≡ true) (sym same)
    (all_pass (λ g. is_before x.key g.key) (earlier ++ (e ∷ later)) (and_parts _ _ rising).0 e (in_right e earlier (e ∷ later) (inl refl)))
stands_before (x ∷ earlier) e later rising f (inr i) = stands_before earlier e later (and_parts _ _ rising).1 f i

-- a member, with what comes before and after it
split_at : (trace : List EntryRecord) (e : EntryRecord) → IsIn e trace → (earlier later : List EntryRecord) × (trace ≡ earlier ++ (e ∷ later))
split_at [] e none = absurd none
split_at (x ∷ trace) e (inl same) = ([], trace, sym (ap (λ y. y ∷ trace) same))
split_at (x ∷ trace) e (inr i) = let s = split_at trace e i in (x ∷ s.0, s.1, ap (λ ys. x ∷ ys) s.2)

module _ (s : Record) (is : IsInRange s) (trace : List EntryRecord) (is_trace : IsTrace (setting_of s) trace) where
  behind : StandsBehind trace
  behind = stands_behind (setting_of s) (setting_sound s is) (runs_reduction s) trace is_trace

  rises : is_rising trace ≡ true
  rises = trace_rises (setting_of s) (setting_sound s is) trace is_trace

  pub shares_suspicions : SharesSuspicions trace
  shares_suspicions e there p i =
      let at = split_at trace e there in
      let b = behind at.0 e at.1 at.2 p i in
      (b.0, subst (IsIn b.0) (sym at.2) (in_left b.0 at.0 (e ∷ at.1) b.1), stands_before at.0 e at.1 (subst (λ xs. is_rising xs ≡ true) at.2 rises) b.0 b.1, b.2)

  -- whom a process suspects on layer 2 at a tick, some base detector had suspected by then
  pub blamed_by_out : (q t p : ℕ) → out 2 trace q t p ≡ true → IsBlamedBy trace p t
  blamed_by_out q t p h = elim (suspected_noted 2 p (notes_until trace q t) nobody h) [
    | inl none ↦ absurd (cc none)
    | inr i ↦
        let at = placed trace q t (Suspect 2 p) i in
        let b = shares_suspicions at.0 at.1 p at.3 in
        let before : b.0.key.tick ≤ at.0.key.tick = ticks_rise b.0.key at.0.key (less_from _ b.2) in
        (b.0, b.1, omega (arith, at.2), b.3)
  ]
