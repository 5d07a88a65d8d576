-- Files in which keys can't be set, files that stand for no scenario, and studies that words say.
use Rattle.std.specs.Prelude.{◌≡◌, ◌++◌, ℕ, List, length, false, Ok, Err}
use Rattle.study.specs.{Grid.{runs}, Placed.{assign_all, is_memory as is_place_memory}, Laid.{IsRefusedFor, is_memory}, Sources.{SourcesRecord, sources_of}}
use Rattle.study.specs.declared.{assignment.Assignment.{Assignment}, error.{PlaceError.{PlaceError}, ReadError.{ReadError}}}
use Rattle.study_commands.specs.{Check.{study_begin}, Inside.Private.{IsFaultOf}, declared.{fault.Fault.{Fault, TheVariants.{Memory, Refused}}, sweeping.SaidStudy.{SaidStudy}}}
use Rattle.sweep.specs.{Outcome.{CantBeRun}, StudyText.{numbers_of}, declared.error.SweepError.{SweepError}}

-- why not, for a reason other than memory
pub record IsUnsetIn (assigned : List Assignment) (files : SourcesRecord) : Type 0 where
  pub reason : PlaceError
  pub other : is_place_memory reason ≡ false
  pub is : assign_all assigned files ≡ Err reason

-- the fault is that they can't, or that memory was refused
abbrev pub CannotSet : List Assignment → SourcesRecord → Fault → Type 0
CannotSet assigned files (Refused line) = IsUnsetIn assigned files
CannotSet assigned files Memory = Unit {0}
CannotSet assigned files _ = ⊥

-- why files stand for no scenario, other than that memory was refused
pub record HasNone (sources : SourcesRecord) : Type 0 where
  pub reason : ReadError
  pub other : is_memory reason ≡ false
  pub refused : IsRefusedFor (Ok sources) reason

-- the fault is that they stand for none, or that memory was refused
abbrev pub StandsForNone : SourcesRecord → Fault → Type 0
StandsForNone sources (Refused line) = HasNone sources
StandsForNone sources Memory = Unit {0}
StandsForNone sources _ = ⊥

-- the fault is why the study can't be run
abbrev pub CantBeSwept : SaidStudy → Fault → Type 0
CantBeSwept s f = (e : SweepError) × CantBeRun (sources_of s.sources) s.grid s.layout.groups s.shard e × IsFaultOf e f

-- the text begins with how many points and runs these are
abbrev pub TellsOfStudy : SaidStudy → (text : List ℕ) → Type 0
TellsOfStudy s text =
    (more : List ℕ) × (text ≡ study_begin (length (numbers_of s.grid s.shard)) (length (runs s.grid)) ++ more)
