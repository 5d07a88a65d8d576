-- Outcomes: what each process decided, when, and how far its rounds went.
use Rattle.std.specs.Prelude.{ℕ, max, Bool, true, false, ◌==◌, if◌then◌else◌, Option, None, Some, List, [], ◌∷◌, ◌++◌, map, find, fold}
use Rattle.{process_api.specs.{Place.{numbers_to}, declared.action.Note.{Note, TheVariants.{Suspect, Trust, Round, Decided, NoValue}}, Order.{EntryRecord}}, judges.specs.declared.outcomes.{Answer.{Answer}, Outcome.{Outcome}}}
use Rattle.judges.specs.declared.outcomes.Answer.TheVariants as answer

-- notes, each with the tick
abbrev pub timed : (tick : ℕ) → List Note → List (ℕ × Note)
timed tick notes = map (λ note. (tick, note)) notes

-- the notes of process p, each with its tick, in order
abbrev pub notes_of : List EntryRecord → ℕ → List (ℕ × Note)
notes_of [] p = []
notes_of (entry ∷ trace) p =
    if entry.key.receiver == p then timed entry.key.tick entry.notes ++ notes_of trace p else notes_of trace p

abbrev pub is_answer : Note → Bool
is_answer (Suspect l who) = false
is_answer (Trust l who) = false
is_answer (Round r) = false
is_answer (Decided v) = true
is_answer NoValue = true

abbrev pub answer_of : Note → Answer
answer_of (Suspect l who) = answer.None
answer_of (Trust l who) = answer.None
answer_of (Round r) = answer.None
answer_of (Decided v) = answer.Value v
answer_of NoValue = answer.NoValue

abbrev pub round_of : Note → ℕ
round_of (Suspect l who) = 0
round_of (Trust l who) = 0
round_of (Round r) = r
round_of (Decided v) = 0
round_of NoValue = 0

-- the first Decided or NoValue note, with its tick
abbrev pub first_answer : List (ℕ × Note) → Option (ℕ × Note)
first_answer notes = find (λ n. is_answer n.1) notes

abbrev pub value_of : Option (ℕ × Note) → Answer
value_of None = answer.None
value_of (Some n) = answer_of n.1

abbrev pub tick_of : Option (ℕ × Note) → Option ℕ
tick_of None = None
tick_of (Some n) = Some n.0

-- the greatest round noted, 0 if none
abbrev pub greatest_round : List (ℕ × Note) → ℕ
greatest_round notes = fold (λ greatest n. max greatest (round_of n.1)) 0 notes

-- the outcome of process p, which noted these
abbrev pub outcome_of : (p : ℕ) → List (ℕ × Note) → Outcome
outcome_of p notes = record {
  pid = p;
  value = value_of (first_answer notes);
  tick = tick_of (first_answer notes);
  rounds = greatest_round notes;
}

abbrev pub outcome : List EntryRecord → (p : ℕ) → Outcome
outcome trace p = outcome_of p (notes_of trace p)

-- the outcomes of processes 1 to n, in order
abbrev pub outcomes : List EntryRecord → (n : ℕ) → List Outcome
outcomes trace n = map (outcome trace) (numbers_to n)
