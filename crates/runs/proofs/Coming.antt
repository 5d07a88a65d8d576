-- Letters, and what the trace has of them.
use Rattle.runs.proofs.Words.{◌≡◌, ◌≢◌, ◌⊎◌, ◌+◌, ◌<◌, inl, inr, refl, sym, ap, ◌∙◌, subst, Bool, true, false, cond, true≢false, nat_le, List, [], ◌∷◌, map, Some, arith, leb-false, lt-leb, EntryRecord, Key, IsInRange, Record, Fate, Posted, posted_in, posted_along, setting_of, Setting, IsSound, has_crashed, Event, kind_of, kind_of_payload, World, Has, IsWorld, Run, opening, taken, entries, IsTrace, closed_of_run, opening_world, starts_are, one_run, setting_sound, in_append, in_images, in_left, in_right, of_images, due_of, fate_of, letter_of, AreLetters, IsEntryOf, AreInTrace, Letter}
use Rattle.runs.proofs.OneStep.{event_of, Becomes, step_joins, step_posted, step_kind}
use Rattle.process_api.specs.declared.entry.Kind.TheVariants as kind
use Rattle.streams.specs.declared.fate.Fate.TheVariants as link
use Rattle.trace_laws.specs.History.{IsIn, IsTaken, Pair}
use Rattle.trace_laws.proofs.Worlds.{taken_cases, taken_new, taken_world}
use Rattle.reporting.specs.declared.letter.LetterFate.{LetterFate}
use Rattle.reporting.specs.declared.letter.LetterFate.TheVariants as fate

-- ---- fates

abbrev has_come : LetterFate → Bool
has_come fate.Taken = true
has_come fate.Lost = false
has_come fate.Dead = true
has_come fate.Late = false

came : (f : LetterFate) → (f ≡ fate.Taken) ⊎ (f ≡ fate.Dead) → has_come f ≡ true
came f (inl e) = ap has_come e
came f (inr e) = ap has_come e

module _ {Mind : Type 0} (S : Setting Mind) where
  -- a letter that came becomes an event below the horizon
  becoming : (l : Posted) → has_come (letter_of S l).fate ≡ true → (e : Event) × Becomes S l e
  becoming l come = by l.fate refl
    where
      by : (f : Fate) → l.fate ≡ f → (e : Event) × Becomes S l e
      by link.Lost is = absurd (true≢false (sym come ∙ ap (λ f. has_come (fate_of S l.key.receiver (due_of l.key.tick f))) is))
      by (link.Delay ticks) is =
          let told : true ≡ has_come (fate_of S l.key.receiver (Some (l.key.tick + ticks))) = sym come ∙ ap (λ f. has_come (fate_of S l.key.receiver (due_of l.key.tick f))) is in
          elim (nat_le S.horizon (l.key.tick + ticks)) as (λ b. nat_le S.horizon (l.key.tick + ticks) ≡ b → (e : Event) × Becomes S l e) [
            | true ↦ λ late. absurd (true≢false (told ∙ ap (λ b. has_come (cond b fate.Late (cond (has_crashed (S.crash l.key.receiver) (l.key.tick + ticks)) fate.Dead fate.Taken))) late))
            | false ↦ λ early. (event_of l ticks, (ticks, is, leb-false _ _ early, refl))
          ] refl

  -- the entry of a letter's event is its entry
  entry_of : (l : Posted) (e : Event) → Becomes S l e → (entry : EntryRecord) → entry.key ≡ e.0
      → entry.kind ≡ cond (has_crashed (S.crash entry.key.receiver) entry.key.tick) kind.Dead (kind_of e.1) → IsEntryOf (letter_of S l) entry
  entry_of l e (ticks, slow, below, is) entry key told = record {
    due = due ∙ ap (λ (k : Key). Some k.tick) (sym at);
    receiver = ap (λ (k : Key). k.receiver) (sym at);
    sender = ap (λ (k : Key). k.sender) (sym at);
    number = ap (λ (k : Key). k.number) (sym at);
    end = go (has_crashed (S.crash l.key.receiver) (l.key.tick + ticks)) refl;
  }
    where
      at : entry.key ≡ record l.key { tick = l.key.tick + ticks }
      at = key ∙ ap (λ (d : Event). d.0) is

      due : due_of l.key.tick l.fate ≡ Some (l.key.tick + ticks)
      due = ap (due_of l.key.tick) slow

      early : nat_le S.horizon (l.key.tick + ticks) ≡ false
      early = lt-leb S.horizon (l.key.tick + ticks) below

      fate_is : (letter_of S l).fate ≡ cond (has_crashed (S.crash l.key.receiver) (l.key.tick + ticks)) fate.Dead fate.Taken
      fate_is = ap (fate_of S l.key.receiver) due ∙ ap (λ b. cond b fate.Late (cond (has_crashed (S.crash l.key.receiver) (l.key.tick + ticks)) fate.Dead fate.Taken)) early

      kind_is : entry.kind ≡ cond (has_crashed (S.crash l.key.receiver) (l.key.tick + ticks)) kind.Dead (kind_of_payload l.payload)
      kind_is = told ∙ ap (λ (k : Key). cond (has_crashed (S.crash k.receiver) k.tick) kind.Dead (kind_of e.1)) at
          ∙ ap (λ (d : Event). cond (has_crashed (S.crash l.key.receiver) (l.key.tick + ticks)) kind.Dead (kind_of d.1)) is

      go : (b : Bool) → has_crashed (S.crash l.key.receiver) (l.key.tick + ticks) ≡ b
          → (((letter_of S l).fate ≡ fate.Taken) × (entry.kind ≡ (letter_of S l).kind)) ⊎ (((letter_of S l).fate ≡ fate.Dead) × (entry.kind ≡ kind.Dead))
      go true is_dead = inr (fate_is ∙ ap (λ b. cond b fate.Dead fate.Taken) is_dead, kind_is ∙ ap (λ b. cond b kind.Dead (kind_of_payload l.payload)) is_dead)
      go false is_up = inl (fate_is ∙ ap (λ b. cond b fate.Dead fate.Taken) is_up, kind_is ∙ ap (λ b. cond b kind.Dead (kind_of_payload l.payload)) is_up)

  -- ---- along a run

  -- the kind of each entry
  kinds : (h : List Pair) (w last : World Mind) → Run S S.horizon w h last → (s : Pair) → IsIn s h → s.0.kind ≡ cond (has_crashed (S.crash s.0.key.receiver) s.0.key.tick) kind.Dead (kind_of s.1)
  kinds [] w last run s i = absurd i
  kinds (t ∷ h) w last run s (inl e) =
      subst (λ (z : Pair). z.0.kind ≡ cond (has_crashed (S.crash z.0.key.receiver) z.0.key.tick) kind.Dead (kind_of z.1)) (sym e)
      (ap (λ (z : EntryRecord). z.kind) run.2 ∙ step_kind S (w.process t.0.key.receiver) t.0.key t.1)
  kinds (t ∷ h) w last run s (inr i) = kinds h (taken S w t.0.key t.1) last run.3 s i

  module _ (sound : IsSound S) where
    -- a letter's event is taken
    comes : (h : List Pair) (w last : World Mind) → IsWorld S w → Run S S.horizon w h last → (l : Posted) → IsIn l (posted_along S w h) → (e : Event) → Becomes S l e → IsTaken e.0 e.1 h
    comes [] w last is_world run l i e becomes = absurd i
    comes (s ∷ h) w last is_world run l i e becomes =
        let after_world = taken_world S w s.0.key s.1 sound is_world run.0.there in
        let later : IsTaken e.0 e.1 h = elim (in_append l (posted_in S (w.process s.0.key.receiver) s.0.key s.1) (posted_along S (taken S w s.0.key s.1) h) i) [
          | inl j ↦
              let joins = step_joins S (w.process s.0.key.receiver) s.0.key s.1 l j e becomes in
              let pending = taken_new S w s.0.key s.1 sound is_world run.0.there e.0 e.1 joins in
              let below : e.0.tick < S.horizon = omega (arith, becomes.2, ap (λ (d : Event). d.0.tick) becomes.3) in
              ((closed_of_run S sound S.horizon h (taken S w s.0.key s.1) last after_world run.3).exact e.0 e.1).1 (below, inl pending)
          | inr j ↦ comes h (taken S w s.0.key s.1) last after_world run.3 l j e becomes
        ] in
        (later.0, later.1, inr later.2)

    -- an event that is taken was pending, or is a letter's, where another process caused it
    comes_of : (h : List Pair) (w last : World Mind) → IsWorld S w → Run S S.horizon w h last → (s : Pair) → IsIn s h → s.0.key.sender ≢ s.0.key.receiver
        → Has w.pending s.0.key s.1 ⊎ ((l : Posted) × IsIn l (posted_along S w h) × Becomes S l (s.0.key, s.1))
    comes_of [] w last is_world run s i apart = absurd i
    comes_of (t ∷ h) w last is_world run s (inl e) apart = inl (subst (λ (z : Pair). Has w.pending z.0.key z.1) (sym e) run.0.there)
    comes_of (t ∷ h) w last is_world run s (inr i) apart = elim (comes_of h (taken S w t.0.key t.1) last (taken_world S w t.0.key t.1 sound is_world run.0.there) run.3 s i apart) [
      | inl has ↦ elim (taken_cases S w t.0.key t.1 s.0.key s.1 has) [
        | inl j ↦
            let m = step_posted S (w.process t.0.key.receiver) t.0.key t.1 (s.0.key, s.1) j apart in
            inr (m.0, in_left m.0 (posted_in S (w.process t.0.key.receiver) t.0.key t.1) (posted_along S (taken S w t.0.key t.1) h) m.1, m.2)
        | inr old ↦ inl old.1
      ]
      | inr m ↦ inr (m.0, in_right m.0 (posted_in S (w.process t.0.key.receiver) t.0.key t.1) (posted_along S (taken S w t.0.key t.1) h) m.1, m.2)
    ]

    -- the letters of a run, and its entries
    run_told : (h : List Pair) (last : World Mind) → Run S S.horizon (opening S) h last → AreInTrace (entries h) (map (letter_of S) (posted_along S (opening S) h))
    run_told h last run = record { entries = there; letters = back }
      where
        there : (letter : Letter) → IsIn letter (map (letter_of S) (posted_along S (opening S) h)) → (letter.fate ≡ fate.Taken) ⊎ (letter.fate ≡ fate.Dead)
            → (entry : EntryRecord) × IsIn entry (entries h) × IsEntryOf letter entry
        there letter i come =
            let m = of_images (letter_of S) letter (posted_along S (opening S) h) i in
            let e = becoming m.0 (sym (ap (λ (l : Letter). has_come l.fate) m.2) ∙ came letter.fate come) in
            let t = comes h (opening S) last (opening_world S sound) run m.0 m.1 e.0 e.1 in
            (t.0, in_images (λ (s : Pair). s.0) (t.0, e.0.1) h t.2, subst (λ l. IsEntryOf l t.0) (sym m.2) (entry_of m.0 e.0 e.1 t.0 t.1 (kinds h (opening S) last run (t.0, e.0.1) t.2)))

        back : (entry : EntryRecord) → IsIn entry (entries h) → entry.key.sender ≢ entry.key.receiver
            → (letter : Letter) × IsIn letter (map (letter_of S) (posted_along S (opening S) h)) × IsEntryOf letter entry
        back entry i apart =
            let m = of_images (λ (s : Pair). s.0) entry h i in
            let others : m.0.0.key.sender ≢ m.0.0.key.receiver = subst (λ (z : EntryRecord). z.key.sender ≢ z.key.receiver) m.2 apart in
            subst (λ z. (letter : Letter) × IsIn letter (map (letter_of S) (posted_along S (opening S) h)) × IsEntryOf letter z) (sym m.2)
            (elim (comes_of h (opening S) last (opening_world S sound) run m.0 m.1 others) [
              | inl start ↦
                  let own = (starts_are S.processes m.0.0.key m.0.1 start).2 in
                  absurd (others (ap (λ (k : Key). k.sender) own))
              | inr (l, k, becomes) ↦
                  (letter_of S l, in_images (letter_of S) l (posted_along S (opening S) h) k, entry_of l (m.0.0.key, m.0.1) becomes m.0.0 refl (kinds h (opening S) last run m.0 m.1))
            ])

-- what a scenario's trace has of its letters
pub letters_in_trace : (s : Record) → IsInRange s → (letters : List Letter) → AreLetters s letters → (trace : List EntryRecord) → IsTrace (setting_of s) trace → AreInTrace trace letters
letters_in_trace s ranges letters (posted, (history, last, run, is), told) trace (other, end, same, whole) =
    let S = setting_of s in
    let histories : other ≡ history = (one_run S S.horizon (opening S) other history end last same run).0 in
    let these : letters ≡ map (letter_of S) (posted_along S (opening S) history) = told ∙ ap (map (letter_of S)) is in
    let those : trace ≡ entries history = whole ∙ ap entries histories in
    subst (λ t. AreInTrace t letters) (sym those) (subst (AreInTrace (entries history)) (sym these) (run_told S (setting_sound s ranges) history last run))

-- a scenario's run has these letters alone
pub only_letters : (s : Record) (letters others : List Letter) → AreLetters s letters → AreLetters s others → others ≡ letters
only_letters s letters others (posted, (history, last, run, is), told) (more, (other, end, same, was), said) =
    let S = setting_of s in
    let histories : other ≡ history = (one_run S S.horizon (opening S) other history end last same run).0 in
    said ∙ (ap (map (letter_of S)) (was ∙ ap (posted_along S (opening S)) histories ∙ sym is) ∙ sym told)
