-- What one more entry makes of outcomes.
use Rattle.{std.specs.Prelude.{ℕ, max, Some, List, fold}, process_api.specs.declared.action.Note.{Note, TheVariants.{Suspect, Trust, Round, Decided, NoValue}}}
use Rattle.judges.specs.{declared.outcomes.{Answer.{Answer}, Outcome.{Outcome}}, Outcomes.{answer_of}}
use Rattle.judges.specs.declared.outcomes.Answer.TheVariants as answer

-- the step of an outcome at one more note
abbrev pub answered : Outcome → Answer → (tick : ℕ) → Note → Outcome
answered o answer.None tick note = record o { value = answer_of note; tick = Some tick }
answered o answer.NoValue tick note = o
answered o (answer.Value v) tick note = o

abbrev pub noted : Outcome → (tick : ℕ) → Note → Outcome
noted o tick (Suspect l who) = o
noted o tick (Trust l who) = o
noted o tick (Round r) = record o { rounds = max o.rounds r }
noted o tick (Decided v) = answered o o.value tick (Decided v)
noted o tick NoValue = answered o o.value tick NoValue

abbrev pub all_noted : Outcome → (tick : ℕ) → List Note → Outcome
all_noted o tick notes = fold (λ o note. noted o tick note) o notes
