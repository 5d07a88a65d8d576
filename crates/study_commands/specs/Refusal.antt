-- Why files are refused, and how that is told.
use Rattle.std.specs.{Prelude.{◌≡◌, ◌≢◌, ◌<◌, ◌⊎◌, ℕ, List, ◌++◌, length, false, Option, None, Some, IfSome, Ok, Err, Bool, true, String, codes, string_bytes}, declared.alloc.Global.{Global}, List.{AllZip}}
use Rattle.{diagnosis.specs.{Diagnosis.{RefusesFor}, Text.{refused_text}, declared.answer.Refused.{Refused as Diagnosed}}, printable.specs.Printable.{printable}}
use Rattle.study_commands.specs.{File.{AreBytes, AreFiles, AreSources, is_alone, network_path, no_axes, set_words, IsScenario}, WordRefusals.{SaysNoSources}}
use Rattle.{study_commands.specs.declared.fault.Fault.{Fault, TheVariants.{Memory, Refused, Words, WordsMemory, Limit, Write}}, scenario.specs.Refusals.{IsDocumentOf}}
use Rattle.process_api.specs.{Order.{EntryRecord}, declared.run_error.RunError.{RunError}}
use Rattle.process_api.specs.declared.run_error.RunError.TheVariants as error
use Rattle.{scenario_record.specs.Record.{Record}, study.specs.{Grid.{GridRecord}, Placed.{assign_all, is_memory as is_place_memory}, Laid.{IsRefusedFor, is_memory}, SetWords.{SaysAssignment}, Sources.{SourcesRecord}}}
use Rattle.{study.specs.declared.{assignment.Assignment.{Assignment}, error.{PlaceError.{PlaceError}, ReadError.{ReadError}}}, study_line.specs.declared.order.SourceTexts.{SourceTexts}}
use Rattle.{trace_laws.specs.{Setting.{setting_of}, World.{IsTrace}}, shell.specs.Ending.{input_path, most_bytes}}

-- the line, where there was memory for one
abbrev pub Says : Option (String Global) → List ℕ → Type 0
Says line text = IfSome line (λ l. string_bytes l ≡ text)

-- one of two facts, as a test decides
abbrev pub Decided : Bool → Type 0 → Type 0 → Type 0
Decided true A B = A
Decided false A B = B

-- a file can't be read, or what it has breaks a rule of scenario files
pub data FileRefusal : Type 0 where
  absent : FileRefusal
  unreadable : FileRefusal
  too_long : FileRefusal
  broken : Diagnosed → FileRefusal

-- nothing is said of the file's bytes
abbrev pub IsBeforeReading : FileRefusal → Type 0
IsBeforeReading (broken r) = ⊥
IsBeforeReading _ = Unit {0}

-- how it's told
abbrev pub refusal_text : FileRefusal → List ℕ
refusal_text absent = codes "no such file"
refusal_text unreadable = codes "unreadable"
refusal_text too_long = codes "more than 8388608 bytes"
refusal_text (broken r) = refused_text r

module _ (path : List ℕ) where
  -- what is told of a file, behind its path
  abbrev pub line_with : List ℕ → List ℕ
  line_with text = printable path ++ (codes ": " ++ (text ++ codes "\n"))

  -- the fault is that the file is refused, and its line says so
  abbrev pub IsToldWith : List ℕ → Fault → Type 0
  IsToldWith text (Refused line) = Says line (line_with text)
  IsToldWith text _ = ⊥

  -- the bytes are refused, and the line says why
  pub record AreBytesRefused (bytes : List ℕ) (line : Option (String Global)) : Type 0 where
    pub diagnosed : Diagnosed
    pub refuses : RefusesFor bytes diagnosed
    pub says : Says line (line_with (refused_text diagnosed))

  -- the fault is that the bytes are refused, or that memory was
  abbrev pub IsOfBytes : List ℕ → Fault → Type 0
  IsOfBytes bytes (Refused line) = AreBytesRefused bytes line
  IsOfBytes bytes Memory = Unit {0}
  IsOfBytes bytes _ = ⊥

module _ (input : Option (List ℕ)) (path : List ℕ) where
  -- the refusal is right. Standard input is always there, and of another path's bytes nothing is known
  abbrev pub IsRight : FileRefusal → Type 0
  IsRight absent = path ≢ input_path
  IsRight unreadable = Unit {0}
  IsRight too_long = path ≡ input_path → IfSome input (λ all. most_bytes < length all)
  IsRight (broken r) = (bytes : List ℕ) × AreBytes input path bytes × RefusesFor bytes r

  -- and where a table alone is wanted, the file's bytes are no TOML
  abbrev pub IsRightOfTable : FileRefusal → Type 0
  IsRightOfTable (broken r) =
      (bytes : List ℕ) × AreBytes input path bytes × IsDocumentOf bytes None × RefusesFor bytes r
  IsRightOfTable refusal = IsRight refusal

  -- the file is refused, and the line says why
  pub record IsRefusedFile (line : Option (String Global)) : Type 0 where
    pub refusal : FileRefusal
    pub right : IsRight refusal
    pub says : Says line (line_with path (refusal_text refusal))

  pub record IsNoTable (line : Option (String Global)) : Type 0 where
    pub refusal : FileRefusal
    pub right : IsRightOfTable refusal
    pub says : Says line (line_with path (refusal_text refusal))

  -- the file can't be read, and the line says why
  pub record IsUnreadFile (line : Option (String Global)) : Type 0 where
    pub refusal : FileRefusal
    pub before : IsBeforeReading refusal
    pub right : IsRight refusal
    pub says : Says line (line_with path (refusal_text refusal))

  -- the fault is that the file can't be read, or that memory was refused
  abbrev pub IsUnread : Fault → Type 0
  IsUnread (Refused line) = IsUnreadFile line
  IsUnread Memory = Unit {0}
  IsUnread _ = ⊥

  -- the fault is that the file is refused, or that memory was
  abbrev pub IsOfOwnFile : Fault → Type 0
  IsOfOwnFile (Refused line) = IsRefusedFile line
  IsOfOwnFile Memory = Unit {0}
  IsOfOwnFile _ = ⊥

  abbrev pub IsOfTable : Fault → Type 0
  IsOfTable (Refused line) = IsNoTable line
  IsOfTable Memory = Unit {0}
  IsOfTable _ = ⊥

module _ (input : Option (List ℕ)) where
  -- a network's file is named that can't be read or is no TOML, and the line says why
  abbrev pub IsNoNetwork : (path : Option (List ℕ)) → (line : Option (String Global)) → Type 0
  IsNoNetwork None line = ⊥
  IsNoNetwork (Some path) line = IsNoTable input path line

  -- the fault is that, or that memory was refused
  abbrev pub IsOfNetwork : (path : Option (List ℕ)) → Fault → Type 0
  IsOfNetwork path (Refused line) = IsNoNetwork path line
  IsOfNetwork path Memory = Unit {0}
  IsOfNetwork path _ = ⊥

  module _ (texts : SourceTexts) where
    -- one of the files can't be read or is no TOML, and the line says why
    abbrev pub AreNoFiles : (line : Option (String Global)) → Type 0
    AreNoFiles line = IsNoTable input texts.path.now line ⊎ IsNoNetwork (network_path texts) line

    abbrev pub IsOfFiles : Fault → Type 0
    IsOfFiles (Refused line) = AreNoFiles line
    IsOfFiles Memory = Unit {0}
    IsOfFiles _ = ⊥

    -- a key that words set has no place in the files
    pub record IsUnset : Type 0 where
      pub files : SourcesRecord
      pub are_files : AreFiles input texts files
      pub assigned : List Assignment
      pub say : AllZip SaysAssignment (set_words texts) assigned
      pub reason : PlaceError
      pub other : is_place_memory reason ≡ false
      pub is : assign_all assigned files ≡ Err reason

    -- there are no such files
    abbrev pub AreNoSources : (line : Option (String Global)) → Type 0
    AreNoSources line = AreNoFiles line ⊎ IsUnset

    -- the fault is that the words are refused that name the files and set keys, or the files, or that memory was
    abbrev pub IsOfSources : GridRecord → Fault → Type 0
    IsOfSources g (Words line) = SaysNoSources texts g
    IsOfSources g WordsMemory = Unit {0}
    IsOfSources g (Refused line) = AreNoSources line
    IsOfSources g Memory = Unit {0}
    IsOfSources g _ = ⊥

    -- the files stand for no scenario
    pub record IsNoScenario : Type 0 where
      pub sources : SourcesRecord
      pub are_sources : AreSources input texts no_axes sources
      pub reason : ReadError
      pub other : is_memory reason ≡ false
      pub refused : IsRefusedFor (Ok sources) reason

    -- a scenario's file alone is refused, and the line says why; or other files are
    abbrev pub AreRefused : (line : Option (String Global)) → Type 0
    AreRefused line =
        Decided (is_alone texts) (IsRefusedFile input texts.path.now line) (AreNoSources line ⊎ IsNoScenario)

    -- the fault is that words or files are refused, or that memory was
    abbrev pub IsOfFile : Fault → Type 0
    IsOfFile (Words line) = SaysNoSources texts no_axes
    IsOfFile WordsMemory = Unit {0}
    IsOfFile (Refused line) = AreRefused line
    IsOfFile Memory = Unit {0}
    IsOfFile _ = ⊥

-- a run by the event list is refused for its limit, or because memory was refused
abbrev pub fault_of_run : RunError → Fault
fault_of_run error.Limit = Limit
fault_of_run _ = Memory

-- the scenario's trace has more entries than its limit
abbrev pub IsTooLong : Record → Type 0
IsTooLong s = (trace : List EntryRecord) → IsTrace (setting_of s) trace → s.limit < length trace

-- the fault is that of a run of the scenario: for the limit only where the trace is longer
abbrev pub IsOfRun : Record → Fault → Type 0
IsOfRun s Limit = IsTooLong s
IsOfRun s Memory = Unit {0}
IsOfRun s _ = ⊥

-- `letters` stops for its words, its files, a run that is longer than the limit, refused memory, or a failed write
abbrev pub StopsLetters : Option (List ℕ) → SourceTexts → Fault → Type 0
StopsLetters input texts Limit = (s : Record) × IsScenario input texts s × IsTooLong s
StopsLetters input texts Write = Unit {0}
StopsLetters input texts fault = IsOfFile input texts fault
