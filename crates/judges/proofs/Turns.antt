-- The turns of a pair in a trace, and whether its observer suspects its subject by them.
use Rattle.judges.proofs.Words.{◌≡◌, ◌≢◌, ℕ, ◌+◌, ◌<◌, ◌≤◌, Bool, true, false, cond, ◌&&◌, inl, inr, refl, sym, ap, ◌∙◌, arith, leb, ltb, eqb, Option, None, Some, List, [], ◌∷◌, ◌++◌, take, length, get_or, append-nil, cases_Bool, cond-true, cond-false, cond_both, and_parts, and_from, and_left, and_right, le-leb, lt-leb, lt-ltb, le-ltb, eq-eqb, ne_eqb, leb-true, leb-false, ltb-true, flat_map-append, take_more, fold-append, EntryRecord, Suspect, Trust, Set, nobody, with, without, after_note, notes_until, suspects, Turn, turn_of, turns_at, noted_turns, entry_turns, turns}
use Rattle.{std.specs.List.{fold}, process_api.specs.declared.action.Note.{Note}}
use Rattle.judges.specs.Pairs.{AreFrom, AreUntil}

-- whether there is suspicion at a tick, after turns
abbrev pub stood : (ℕ → Bool) → Turn → ℕ → Bool
stood g t u = cond (leb t.tick u) t.suspected (g u)

abbrev pub standing : (ℕ → Bool) → List Turn → ℕ → Bool
standing g ts = fold stood g ts

-- the turns come in the order of their ticks, none before the first tick, none at the horizon or later
abbrev pub AreWithin : (first horizon : ℕ) → List Turn → Type 0
AreWithin first horizon [] = first ≤ horizon
AreWithin first horizon (t ∷ ts) = (first ≤ t.tick) × AreWithin t.tick horizon ts

-- ---- the notes of an entry

module _ (layer p tick u : ℕ) where
  module _ (g : ℕ → Bool) where
    one_early : u < tick → (o : Option (ℕ × Bool)) → standing g (turns_at p tick o) u ≡ g u
    one_early l None = refl
    one_early l (Some t) =
        elim (eqb t.0 p) as (λ c. standing g (cond c (record { tick = tick; suspected = t.1 } ∷ []) []) u ≡ g u) [ true ↦ ap (λ b. cond b t.1 (g u)) (lt-leb tick u l) | false ↦ refl ]

    module _ (set : Set) (l : tick ≤ u) (e : g u ≡ set p) where
      said : (c s : Bool) → standing g (cond c (record { tick = tick; suspected = s } ∷ []) []) u ≡ cond c s (set p)
      said true s = ap (λ b. cond b s (g u)) (le-leb tick u l)
      said false s = e

      one_noted : (note : Note) → standing g (turns_at p tick (turn_of layer note)) u ≡ after_note layer set note p
      one_noted (Suspect of who) =
          elim (eqb of layer) as (λ b. standing g (turns_at p tick (cond b (Some (who, true)) None)) u ≡ cond b (with set who) set p) [ true ↦ said (eqb who p) true | false ↦ e ]
      one_noted (Trust of who) =
          elim (eqb of layer) as (λ b. standing g (turns_at p tick (cond b (Some (who, false)) None)) u ≡ cond b (without set who) set p) [ true ↦ said (eqb who p) false | false ↦ e ]
      one_noted note = e

  -- at ticks before they say nothing
  pub noted_early : u < tick → (notes : List Note) (g : ℕ → Bool) → standing g (noted_turns layer p tick notes) u ≡ g u
  noted_early l [] g = refl
  noted_early l (note ∷ notes) g =
      ap (λ (f : ℕ → Bool). f u) (fold-append stood g (turns_at p tick (turn_of layer note)) (noted_turns layer p tick notes))
      ∙ noted_early l notes (standing g (turns_at p tick (turn_of layer note)))
      ∙ one_early g l (turn_of layer note)

  -- from their tick on the pair is as the notes leave it
  pub noted_late : tick ≤ u → (notes : List Note) (g : ℕ → Bool) (set : Set) → g u ≡ set p
      → standing g (noted_turns layer p tick notes) u ≡ fold (after_note layer) set notes p
  noted_late l [] g set e = e
  noted_late l (note ∷ notes) g set e =
      ap (λ (f : ℕ → Bool). f u) (fold-append stood g (turns_at p tick (turn_of layer note)) (noted_turns layer p tick notes))
      ∙ noted_late l notes (standing g (turns_at p tick (turn_of layer note))) (after_note layer set note) (one_noted g set l e note)

-- ---- a trace

module _ (layer q p horizon : ℕ) where
  module _ (u : ℕ) (below : u < horizon) where
    traced : (trace : List EntryRecord) (g : ℕ → Bool) (set : Set) → g u ≡ set p
        → standing g (turns layer q p horizon trace) u ≡ fold (after_note layer) set (notes_until trace q u) p
    traced [] g set e = e
    traced (entry ∷ trace) g set e =
        ap (λ (f : ℕ → Bool). f u) (fold-append stood g (entry_turns layer q p horizon entry) (turns layer q p horizon trace))
        ∙ elim (cases_Bool (leb entry.key.tick u)) [
          | inl c ↦ at (traced trace) (eqb entry.key.receiver q) (leb entry.key.tick u) (ltb entry.key.tick horizon) c (lt-ltb entry.key.tick horizon (let x = leb-true entry.key.tick u c in omega arith)) (leb-true entry.key.tick u c)
          | inr c ↦
              traced trace (standing g (entry_turns layer q p horizon entry)) set
              (cond_both (eqb entry.key.receiver q && ltb entry.key.tick horizon) (noted_turns layer p entry.key.tick entry.notes) [] (λ ts. standing g ts u ≡ g u)
              (λ _. noted_early layer p entry.key.tick u (leb-false entry.key.tick u c) entry.notes g) (λ _. refl) ∙ e)
              ∙ ap (λ b. fold (after_note layer) set (cond b (entry.notes ++ notes_until trace q u) (notes_until trace q u)) p) (sym (and_right (eqb entry.key.receiver q) (leb entry.key.tick u) c))
        ]
      where
        at : ((f : ℕ → Bool) (s : Set) → f u ≡ s p → standing f (turns layer q p horizon trace) u ≡ fold (after_note layer) s (notes_until trace q u) p)
            → (b c h : Bool) → c ≡ true → h ≡ true → entry.key.tick ≤ u
            → standing (standing g (cond (b && h) (noted_turns layer p entry.key.tick entry.notes) [])) (turns layer q p horizon trace) u
            ≡ fold (after_note layer) set (cond (b && c) (entry.notes ++ notes_until trace q u) (notes_until trace q u)) p
        at rest true true true is has l =
            rest (standing g (noted_turns layer p entry.key.tick entry.notes)) (fold (after_note layer) set entry.notes) (noted_late layer p entry.key.tick u l entry.notes g set e)
            ∙ sym (ap (λ (s : Set). s p) (fold-append (after_note layer) set entry.notes (notes_until trace q u)))
        at rest false c h is has l = rest g set e
        at rest true true false is has l = absurd (cc)
        at rest true false h is has l = absurd (cc)

    pub suspects_is : (trace : List EntryRecord) → suspects layer trace q p u ≡ standing (λ _. false) (turns layer q p horizon trace) u
    suspects_is trace = sym (traced trace (λ _. false) nobody refl)

  -- ---- one more entry

  -- of another process, or at the horizon or later
  pub turns_other : (entry : EntryRecord) → entry.key.receiver ≢ q → entry_turns layer q p horizon entry ≡ []
  turns_other entry other = cond-false _ _ _ (and_left (eqb entry.key.receiver q) (ltb entry.key.tick horizon) (ne_eqb entry.key.receiver q other))

  pub turns_late : (entry : EntryRecord) → horizon ≤ entry.key.tick → entry_turns layer q p horizon entry ≡ []
  turns_late entry late = cond-false _ _ _ (and_right (eqb entry.key.receiver q) (ltb entry.key.tick horizon) (le-ltb entry.key.tick horizon late))

  -- without notes
  pub turns_quiet : (entry : EntryRecord) → entry.notes ≡ [] → entry_turns layer q p horizon entry ≡ []
  turns_quiet entry none = cond_both (eqb entry.key.receiver q && ltb entry.key.tick horizon) (noted_turns layer p entry.key.tick entry.notes) [] (λ ts. ts ≡ []) (λ _. ap (noted_turns layer p entry.key.tick) none) (λ _. refl)

  pub turns_own : (entry : EntryRecord) → entry.key.receiver ≡ q → entry.key.tick < horizon → entry_turns layer q p horizon entry ≡ noted_turns layer p entry.key.tick entry.notes
  turns_own entry own below = cond-true _ _ _ (and_from (eqb entry.key.receiver q) (ltb entry.key.tick horizon) (eq-eqb entry.key.receiver q own) (lt-ltb entry.key.tick horizon below))

  pub turns_more : (trace : List EntryRecord) (entry : EntryRecord) → turns layer q p horizon (trace ++ entry ∷ []) ≡ turns layer q p horizon trace ++ entry_turns layer q p horizon entry
  turns_more trace entry =
      flat_map-append (entry_turns layer q p horizon) trace (entry ∷ [])
      ∙ ap (λ ts. turns layer q p horizon trace ++ ts) (append-nil (entry_turns layer q p horizon entry))

  -- ---- the order of the turns

  lower : (ts : List Turn) (a b : ℕ) → AreWithin a horizon ts → b ≤ a → AreWithin b horizon ts
  lower [] a b h l = omega arith
  lower (t ∷ ts) a b h l = (omega (arith, h.0), h.1)

  noted_within : (tick : ℕ) (rest : List Turn) → AreWithin tick horizon rest → (notes : List Note) (first : ℕ) → first ≤ tick → AreWithin first horizon (noted_turns layer p tick notes ++ rest)
  noted_within tick rest h [] first l = lower rest tick first h l
  noted_within tick rest h (note ∷ notes) first l =
      elim (turn_of layer note) as (λ o. AreWithin first horizon ((turns_at p tick o ++ noted_turns layer p tick notes) ++ rest)) [
        | None ↦ noted_within tick rest h notes first l
        | Some t ↦
            cond_both (eqb t.0 p) (record { tick = tick; suspected = t.1 } ∷ []) [] (λ ts. AreWithin first horizon ((ts ++ noted_turns layer p tick notes) ++ rest))
            (λ _. (l, noted_within tick rest h notes tick (omega arith))) (λ _. noted_within tick rest h notes first l)
      ]

  pub turns_within : (trace : List EntryRecord) (first last : ℕ) → AreFrom first trace → last ≤ first → last ≤ horizon → AreWithin last horizon (turns layer q p horizon trace)
  turns_within [] first last h l m = m
  turns_within (entry ∷ trace) first last h l m =
      cond_both (eqb entry.key.receiver q && ltb entry.key.tick horizon) (noted_turns layer p entry.key.tick entry.notes) [] (λ ts. AreWithin last horizon (ts ++ turns layer q p horizon trace))
      (λ e. let below = ltb-true entry.key.tick horizon (and_parts (eqb entry.key.receiver q) (ltb entry.key.tick horizon) e).1 in
      noted_within entry.key.tick (turns layer q p horizon trace) (turns_within trace entry.key.tick entry.key.tick h.1 (omega arith) (omega arith)) entry.notes last (omega (arith, h.0)))
      (λ e. turns_within trace entry.key.tick last h.1 (omega (arith, h.0)) m)

-- one more entry of a trace in order
pub in_order_more : (trace : List EntryRecord) (first : ℕ) (entry : EntryRecord) → AreFrom first trace → AreUntil trace entry.key.tick → first ≤ entry.key.tick → AreFrom first (trace ++ entry ∷ [])
in_order_more [] first entry h until l = (l, tt)
in_order_more (x ∷ trace) first entry h until l = (h.0, in_order_more trace x.key.tick entry h.1 until.1 until.0)
