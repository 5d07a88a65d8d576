-- What the program does for a command line.
use Rattle.std.specs.Prelude.{◌≡◌, ◌≢◌, ℕ, List, Option, Result}
use Rattle.command_line.specs.{Order.{AsksHelp, Explains, States}, declared.order.{Order.{Order}, WordsError.{WordsError}}}
use Rattle.command_line.specs.declared.order.WordsError.TheVariants as refusal
use Rattle.process_api.specs.declared.run_error.RunError.TheVariants.{Write}
use Rattle.bench_commands.specs.{Answer.{Answers, AsksRun, Leaves, Writes, path_of, IsScenarioAt}, Fault.{end_of, line_of, status_of}, Why.{StopsFor}, declared.fault.Fault.{Fault, TheVariants.{Form, Run, Words, WordsMemory}}}
use Rattle.{scenario_record.specs.Record.{Record}, shell.specs.Ending.{input_path, Ends, GoesForWords as Goes, IsReason as IsReasonOf}}

-- what went out for the words: what they ask for, or what is left where that stops. Of help its text isn't said
abbrev pub GoesForWords : {O A : Type 0} (told : O → Option (List ℕ)) (failed : O → ℕ) (old new : O) → Option (List ℕ)
    → List (List ℕ) → Result A Fault → Type 0
GoesForWords told failed old new input words outcome =
    Goes (States words) (λ _. AsksHelp words) (Answers input) (Writes input) (Leaves input) told failed old new end_of
    outcome

-- the words ask for a run, of a scenario that is accepted
pub record IsRunAsked (input : Option (List ℕ)) (words : List (List ℕ)) : Type 0 where
  pub asked : Order
  pub stated : States words asked
  pub is_run : AsksRun asked
  pub scenario : Record
  pub stands : IsScenarioAt input (path_of asked) scenario

-- no order that the words state names standard input
abbrev pub NamesNoInput : List (List ℕ) → Type 0
NamesNoInput words = (asked : Order) → States words asked → path_of asked ≢ input_path

-- the fault of words that state no order. Help is told well, unless it can't be written
abbrev pub TellsOf : WordsError → Fault → Type 0
TellsOf (refusal.Help text) fault = fault ≡ Run Write
TellsOf (refusal.Mistake text) fault = fault ≡ Words text
TellsOf refusal.Form fault = fault ≡ Form
TellsOf refusal.Memory fault = fault ≡ WordsMemory

abbrev pub IsHelp : WordsError → Type 0
IsHelp (refusal.Help text) = Unit {0}
IsHelp _ = ⊥

-- the words aren't followed for this fault
abbrev pub IsReason : Option (List ℕ) → List (List ℕ) → Fault → Type 0
IsReason input words = IsReasonOf (States words) (Explains words) TellsOf (StopsFor input)

-- a run for the words ends with this status: what is out of the outlet by then, and what is told of a fault
abbrev pub EndsFor : {O F : Type 0} (told : O → Option (List ℕ)) (failed : O → ℕ) (old new : O)
    (told_of : F → Option (List ℕ)) (failed_of : F → ℕ) (before after : F) → Option (List ℕ) → List (List ℕ)
    → (status : ℕ) → Type 0
EndsFor told failed old new told_of failed_of before after input words status =
    Ends (States words) (λ _. AsksHelp words) (Answers input) (Writes input) (Leaves input) told failed old new
    status_of line_of (IsReason input words) told_of failed_of before after status
