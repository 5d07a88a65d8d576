-- Words of private functions.
use Rattle.std.specs.Prelude.{◌≡◌, ◌<◌, ℕ, List, length, Option, Result, ◌++◌, if◌then◌else◌, codes, string_bytes}
use Rattle.study_commands.specs.{Fault.{IsRefusal, end_of}, declared.fault.Fault.{Fault, TheVariants.{Memory, Write, Words, WordsMemory}}, Sweep.{IsSweepAnswer, IsSweepFront}, WordRefusals.{is_like}, Check.{accepted_text}}
use Rattle.{shell.specs.Ending.{Goes}, study.specs.{Grid.{GridRecord, points, runs}, Words.{Word}}}
use Rattle.study_line.specs.{declared.order.{SourceTexts.{SourceTexts}, StudyTexts.{StudyTexts}, Order.{Order}, WordsError.{WordsError}}, Order.{version_text}}
use Rattle.sweep.specs.declared.error.{SweepError.{SweepError}, LayoutError.{LayoutError}}
use Rattle.sweep.specs.declared.error.SweepError.TheVariants as error
use Rattle.{diagnosis.specs.declared.answer.Accepted.{Accepted}, printable.specs.Printable.{printable}}
use Rattle.sweep.specs.declared.error.LayoutError.TheVariants as layout
use Rattle.study_line.specs.declared.order.Order.TheVariants as order
use Rattle.study_line.specs.declared.order.WordsError.TheVariants as refusal

abbrev pub accepted_line : Accepted → List ℕ
accepted_line a =
    accepted_text a.processes a.horizon a.limit a.window a.estimate.entries a.estimate.seconds a.estimate.in_window

-- the text told of the words is no fault: it is help, or the version
abbrev pub IsNoFault : WordsError → List ℕ → Type 0
IsNoFault (refusal.Help text) piece = Unit {0}
IsNoFault refusal.Version piece = piece ≡ version_text
IsNoFault _ piece = ⊥

-- the order asks for one text, and not for a sweep
abbrev pub IsNoSweep : Order → Type 0
IsNoSweep (order.Sweep texts study) = ⊥
IsNoSweep _ = Unit {0}

-- what is told of such a word, and of the name that is nearest to it
abbrev pub no_column_line : (word nearest : Word) → List ℕ
no_column_line word nearest = codes "fdstudy: words: NoColumn: " ++ (printable word ++ (codes " ("
    ++ (if is_like word nearest
    then codes "did you mean " ++ (printable nearest ++ codes "? fdstudy sweep --help lists the columns)\n")
    else codes "no name is like it; fdstudy sweep --help lists the columns)\n")))

-- the fault tells it, or that there was no memory for it
abbrev pub TellsOfLayout : LayoutError → Fault → Type 0
TellsOfLayout (layout.Unknown name nearest) (Words line) =
    string_bytes line ≡ no_column_line (string_bytes name) (string_bytes nearest)
TellsOfLayout error WordsMemory = Unit {0}
TellsOfLayout error _ = ⊥

-- what went out for a sweep: its text, or the rows of the first points
abbrev pub GoesForSweep : {O A : Type 0} (told : O → Option (List ℕ)) (failed : O → ℕ) (old new : O) → Option (List ℕ)
    → SourceTexts → StudyTexts → Result A Fault → Type 0
GoesForSweep told failed old new input texts study outcome = let front = IsSweepFront input texts study in
    Goes end_of told failed old new (IsSweepAnswer input texts study) front front outcome

-- the fault of a sweep that breaks off: of a run that is refused its line isn't said
abbrev pub IsFaultOf : SweepError → Fault → Type 0
IsFaultOf (error.Refused point run reason) f = IsRefusal f
IsFaultOf (error.NoSuchProcess point run group processes) f = IsRefusal f
IsFaultOf error.Memory f = f ≡ Memory
IsFaultOf error.Write f = f ≡ Write

-- an error that tells of a run tells of one of the study
abbrev pub IsOfRun : GridRecord → SweepError → Type 0
IsOfRun g (error.Refused point run reason) = (point < length (points g)) × (run < length (runs g))
IsOfRun g (error.NoSuchProcess point run group processes) = (point < length (points g)) × (run < length (runs g))
IsOfRun g _ = Unit {0}
