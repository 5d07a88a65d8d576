-- How often a process notes that it trusts another again.
use Rattle.detector_bounds.proofs.Words.{◌≡◌, ℕ, ◌+◌, ◌≤◌, inl, inr, refl, sym, ap, ◌∙◌, subst, true, false, cond, List, [], ◌∷◌, ◌++◌, append_assoc, filter, length, length-append, ◌==◌, arith, cond_both, eq-eqb, EntryRecord, Action, IsIn, is_trust, trusts}
use Rattle.std.proofs.lemmas.List.Elements.{filter-append}
use Rattle.process_api.specs.declared.action.Action.TheVariants as action
use Rattle.process_api.specs.declared.action.Note.{Note}
use Rattle.process_api.specs.declared.action.Note.TheVariants as note
use Rattle.{trace_laws.specs.Step.{noted}, judges.specs.Outcomes.{timed, notes_of}}

notes_of-append : (xs ys : List EntryRecord) (q : ℕ) → notes_of (xs ++ ys) q ≡ notes_of xs q ++ notes_of ys q
notes_of-append [] ys q = refl
notes_of-append (e ∷ xs) ys q = elim (e.key.receiver == q) as (λ b. cond b (timed e.key.tick e.notes ++ notes_of (xs ++ ys) q) (notes_of (xs ++ ys) q) ≡ cond b (timed e.key.tick e.notes ++ notes_of xs q) (notes_of xs q) ++ notes_of ys q) [
  | true ↦ ap (λ z. timed e.key.tick e.notes ++ z) (notes_of-append xs ys q) ∙ sym (append_assoc (timed e.key.tick e.notes) (notes_of xs q) (notes_of ys q))
  | false ↦ notes_of-append xs ys q
]

pub trusts-append : (xs ys : List EntryRecord) (q p : ℕ) → trusts (xs ++ ys) q p ≡ trusts xs q p + trusts ys q p
trusts-append xs ys q p =
    ap (λ z. length (filter (λ (n : ℕ × Note). is_trust p n.1) z)) (notes_of-append xs ys q)
    ∙ ap length (filter-append (λ (n : ℕ × Note). is_trust p n.1) (notes_of xs q) (notes_of ys q))
    ∙ length-append (filter (λ (n : ℕ × Note). is_trust p n.1) (notes_of xs q)) (filter (λ (n : ℕ × Note). is_trust p n.1) (notes_of ys q))

-- an action's note is noted
pub acted_note : (actions : List Action) (x : Note) → IsIn (action.Note x) actions → IsIn x (noted actions)
acted_note [] x none = absurd none
acted_note (action.Send to what ∷ actions) x (inl e) = absurd (cc e)
acted_note (action.Send to what ∷ actions) x (inr i) = acted_note actions x i
acted_note (action.Wake pause tag ∷ actions) x (inl e) = absurd (cc e)
acted_note (action.Wake pause tag ∷ actions) x (inr i) = acted_note actions x i
acted_note (action.Note y ∷ actions) x (inl e) = inl (cc e)
acted_note (action.Note y ∷ actions) x (inr i) = inr (acted_note actions x i)

is_one : (p : ℕ) → is_trust p (note.Trust 1 p) ≡ true
is_one p = eq-eqb p p refl

counted_once : (tick p : ℕ) (notes : List Note) → IsIn (note.Trust 1 p) notes → 1 ≤ length (filter (λ (n : ℕ × Note). is_trust p n.1) (timed tick notes))
counted_once tick p [] none = absurd none
counted_once tick p (n ∷ notes) (inl e) = subst (λ m. 1 ≤ length (filter (λ (n : ℕ × Note). is_trust p n.1) (timed tick (m ∷ notes)))) e
    (subst (λ b. 1 ≤ length (cond b ((tick, note.Trust 1 p) ∷ filter (λ (n : ℕ × Note). is_trust p n.1) (timed tick notes)) (filter (λ (n : ℕ × Note). is_trust p n.1) (timed tick notes)))) (sym (is_one p)) (omega arith))
counted_once tick p (n ∷ notes) (inr i) = cond_both (is_trust p n) ((tick, n) ∷ filter (λ (n : ℕ × Note). is_trust p n.1) (timed tick notes)) (filter (λ (n : ℕ × Note). is_trust p n.1) (timed tick notes)) (λ zs. 1 ≤ length zs)
    (λ _. omega arith) (λ _. counted_once tick p notes i)

-- an entry of q that notes it counts
pub entry_counts : (e : EntryRecord) (q p : ℕ) → e.key.receiver ≡ q → IsIn (note.Trust 1 p) e.notes → 1 ≤ trusts (e ∷ []) q p
entry_counts e q p its i = cond_both (e.key.receiver == q) (timed e.key.tick e.notes ++ []) [] (λ zs. 1 ≤ length (filter (λ (n : ℕ × Note). is_trust p n.1) zs))
    (λ _. omega (
      arith,
      counted_once e.key.tick p e.notes i,
      ap length (filter-append (λ (n : ℕ × Note). is_trust p n.1) (timed e.key.tick e.notes) []),
      length-append (filter (λ (n : ℕ × Note). is_trust p n.1) (timed e.key.tick e.notes)) [],
    ))
    (λ other. absurd (cc (other, eq-eqb e.key.receiver q its)))
