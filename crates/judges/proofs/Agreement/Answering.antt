-- The answers of processes, as lists of values: of a decision its value, of NoValue none.
use Rattle.judges.proofs.Words.{◌≡◌, ◌⊎◌, ℕ, inl, inr, refl, ap, ◌∙◌, true, false, cond, List, [], ◌∷◌, ◌++◌, map, Option, None, Some, ◌==◌, if◌then◌else◌, filter, map-append, EntryRecord, Decided, NoValue, answers_of, DecidesOnce, timed, notes_of, is_answer}
use Rattle.{std.proofs.lemmas.List.Elements.{filter-append}, process_api.specs.declared.action.Note.{Note}}

-- the answers among notes
abbrev pub answers_in : List Note → List (Option ℕ)
answers_in [] = []
answers_in (Decided value ∷ notes) = Some value ∷ answers_in notes
answers_in (NoValue ∷ notes) = None ∷ answers_in notes
answers_in (note ∷ notes) = answers_in notes

-- the answers of process p in a trace
abbrev pub answers_by : ℕ → List EntryRecord → List (Option ℕ)
answers_by p [] = []
answers_by p (entry ∷ trace) = (if entry.key.receiver == p then answers_in entry.notes else []) ++ answers_by p trace

abbrev pub value_in : ℕ × Note → Option ℕ
value_in (tick, Decided value) = Some value
value_in (tick, note) = None

timed_answers : (tick : ℕ) (notes : List Note) → map value_in (filter (λ n. is_answer n.1) (timed tick notes)) ≡ answers_in notes
timed_answers tick [] = refl
timed_answers tick (Decided value ∷ notes) = ap (λ vs. Some value ∷ vs) (timed_answers tick notes)
timed_answers tick (NoValue ∷ notes) = ap (λ vs. None ∷ vs) (timed_answers tick notes)
timed_answers tick (note ∷ notes) = timed_answers tick notes

pub answers_are : (p : ℕ) (trace : List EntryRecord) → map value_in (answers_of trace p) ≡ answers_by p trace
answers_are p [] = refl
answers_are p (e ∷ trace) =
    elim (e.key.receiver == p) as (λ b. map value_in (filter (λ n. is_answer n.1) (cond b (timed e.key.tick e.notes ++ notes_of trace p) (notes_of trace p))) ≡ cond b (answers_in e.notes) [] ++ answers_by p trace) [
      | true ↦
          ap (map value_in) (filter-append (λ n. is_answer n.1) (timed e.key.tick e.notes) (notes_of trace p))
          ∙ map-append value_in (filter (λ n. is_answer n.1) (timed e.key.tick e.notes)) (answers_of trace p)
          ∙ (λ i. timed_answers e.key.tick e.notes i ++ answers_are p trace i)
      | false ↦ answers_are p trace
    ]

none_left : (xs : List (ℕ × Note)) → map value_in xs ≡ [] → xs ≡ []
none_left [] h = refl
none_left (x ∷ xs) h = absurd (cc)

one_decided : (xs : List (ℕ × Note)) (v : ℕ) → map value_in xs ≡ Some v ∷ [] → (tick value : ℕ) × (xs ≡ (tick, Decided value) ∷ [])
one_decided [] v h = absurd (cc)
one_decided ((tick, Decided value) ∷ xs) v h = (tick, value, ap (λ ys. (tick, Decided value) ∷ ys) (none_left xs (cc)))
one_decided ((tick, note) ∷ xs) v h = absurd (cc)

-- what the lists of values tell of a process's answers
pub decides_once : (p : ℕ) (trace : List EntryRecord) → (answers_by p trace ≡ []) ⊎ ((v : ℕ) × (answers_by p trace ≡ Some v ∷ [])) → DecidesOnce trace p
decides_once p trace (inl none) = inl (none_left (answers_of trace p) (answers_are p trace ∙ none))
decides_once p trace (inr one) = inr (one_decided (answers_of trace p) one.0 (answers_are p trace ∙ one.1))
