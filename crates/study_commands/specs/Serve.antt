-- What the program does for a command line.
use Rattle.std.specs.Prelude.{◌≡◌, ◌⊎◌, ◌++◌, ℕ, List, Option, Result, codes, string_bytes}
use Rattle.study_commands.specs.{Answer.{Answers, Leaves, Writes, texts_of}, Fault.{end_of, line_of, status_of}, File.{NameNoInput}, Why.{StopsFor}, declared.fault.Fault.{Fault, TheVariants.{Form, Words, WordsMemory, Write}}}
use Rattle.{printable.specs.Printable.{printable, printable_lines}, shell.specs.Ending.{Ends, GoesForWords as Goes, IsReason as IsReasonOf}}
use Rattle.study_line.specs.{Order.{AsksHelp, AsksVersion, Explains, States, version_text}, declared.order.{Order.{Order}, WordsError.{WordsError}}}
use Rattle.study_line.specs.declared.order.WordsError.TheVariants as refusal

-- the words ask for help or for the version, and this is told of it; of help its text isn't said
abbrev pub AreAnswered : List (List ℕ) → List ℕ → Type 0
AreAnswered words piece = AsksHelp words ⊎ (AsksVersion words × (piece ≡ version_text))

-- what went out for the words: what they ask for, or what is left where that stops
abbrev pub GoesForWords : {O A : Type 0} (told : O → Option (List ℕ)) (failed : O → ℕ) (old new : O) → Option (List ℕ)
    → List (List ℕ) → Result A Fault → Type 0
GoesForWords told failed old new input words outcome =
    Goes (States words) (AreAnswered words) (Answers input) (Writes input) (Leaves input) told failed old new end_of
    outcome

-- what is told of a word that isn't one of those for its option
abbrev pub other_word_line : (name word : List ℕ) → List ℕ
other_word_line name word = codes "fdstudy: words: " ++ (name ++ (codes ": " ++ (printable word ++ codes "\n")))

-- the fault tells this of words, or that there was no memory for it
abbrev pub TellsLine : List ℕ → Fault → Type 0
TellsLine text (Words line) = string_bytes line ≡ text
TellsLine text WordsMemory = Unit {0}
TellsLine text _ = ⊥

-- the fault of words that state no order. Help and the version are no fault, unless they can't be written
abbrev pub TellsOf : WordsError → Fault → Type 0
TellsOf (refusal.Help text) fault = fault ≡ Write
TellsOf refusal.Version fault = fault ≡ Write
TellsOf (refusal.Mistake text) fault = TellsLine (printable_lines (string_bytes text)) fault
TellsOf (refusal.NoPicture word) fault = TellsLine (other_word_line (codes "NoPicture") (string_bytes word)) fault
TellsOf (refusal.NoEach word) fault = TellsLine (other_word_line (codes "NoEach") (string_bytes word)) fault
TellsOf refusal.Form fault = fault ≡ Form
TellsOf refusal.Memory fault = fault ≡ WordsMemory

-- the words aren't followed for this fault
abbrev pub IsReason : Option (List ℕ) → List (List ℕ) → Fault → Type 0
IsReason input words = IsReasonOf (States words) (Explains words) TellsOf (StopsFor input)

-- a run for the words ends with this status: what is out of the outlet by then, and what is told of a fault
abbrev pub EndsFor : {O F : Type 0} (told : O → Option (List ℕ)) (failed : O → ℕ) (old new : O)
    (told_of : F → Option (List ℕ)) (failed_of : F → ℕ) (before after : F) → Option (List ℕ) → List (List ℕ)
    → (status : ℕ) → Type 0
EndsFor told failed old new told_of failed_of before after input words status =
    Ends (States words) (AreAnswered words) (Answers input) (Writes input) (Leaves input) told failed old new
    status_of line_of (IsReason input words) told_of failed_of before after status

-- no order that the words state names standard input
abbrev pub NamesNoInput : List (List ℕ) → Type 0
NamesNoInput words = (asked : Order) → States words asked → NameNoInput (texts_of asked)
