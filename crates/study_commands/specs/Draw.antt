-- What `draw` answers.
use Rattle.std.specs.{Prelude.{◌≡◌, ◌⊎◌, ℕ, ◌-◌, List, [], ◌++◌, map, nat_le, ◌&&◌, Contains, Option, None, Some, String, codes, decimal, if◌then◌else◌, option_map, unwrap_or}, declared.alloc.Global.{Global}}
use Rattle.{printable.specs.Printable.{printable}, process_api.specs.{Place.{most_processes}, Order.{EntryRecord}}, study.specs.Words.{Word, between, is_natural, natural}}
use Rattle.drawing.specs.{LettersPicture.{DrawsLetters, IsMemory, letters_refusal, refusal}, Suspicions.{DrawsSuspicions}, declared.error.DrawError.{DrawError}}
use Rattle.drawing.specs.declared.error.DrawError.TheVariants as picture_error
use Rattle.trace_laws.specs.{Setting.{setting_of}, World.{IsTrace}}
use Rattle.study_commands.specs.{File.{IsScenario, no_axes}, Refusal.{IsOfFile, Says, line_with, IsTooLong}, WordRefusals.{SaysNoSources}, declared.fault.Fault.{Fault, TheVariants.{Limit, Memory, NotDrawn, Words, WordsMemory, Write}}}
use Rattle.{runs.specs.Letters.{AreLetters}, reporting.specs.declared.letter.Letter.{Letter}, scenario_record.specs.Record.{Record}}
use Rattle.study_line.specs.declared.order.{Picture.{Picture}, PictureTexts.{PictureTexts}, SourceTexts.{SourceTexts}}
use Rattle.study_line.specs.declared.order.Picture.TheVariants as picture

-- the text is the picture of who suspects whom at these ticks of the scenario's trace, and nothing speaks against it
pub record ShowsSuspicions (s : Record) (trace : List EntryRecord) (from until : ℕ) (text : List ℕ) : Type 0 where
  pub allowed : refusal s from until ≡ None
  pub draws : DrawsSuspicions s trace from until text

-- the text is the picture of letters at these ticks of the run, of these processes or all, which nothing speaks against
pub record ShowsLetters (s : Record) (trace : List EntryRecord) (of : List ℕ) (from until : ℕ) (text : List ℕ)
    : Type 0 where
  pub letters : List Letter
  pub are_letters : AreLetters s letters
  pub allowed : letters_refusal s letters of from until ≡ None
  pub draws : DrawsLetters s trace letters of from until text

-- the text is that picture of the scenario's trace
abbrev pub ShowsTrace : Picture → Record → List EntryRecord → (of : List ℕ) (from until : ℕ) → List ℕ → Type 0
ShowsTrace picture.Suspicions s trace of from until text = ShowsSuspicions s trace from until text
ShowsTrace picture.Letters s trace of from until text = ShowsLetters s trace of from until text

-- the text is that picture of the scenario's run
pub record Shows (named : Picture) (s : Record) (of : List ℕ) (from until : ℕ) (text : List ℕ) : Type 0 where
  pub trace : List EntryRecord
  pub is_trace : IsTrace (setting_of s) trace
  pub shows : ShowsTrace named s trace of from until text

-- the process of this number, in digits
abbrev pub process_said : Word → Option ℕ
process_said w =
    if is_natural w && (nat_le 1 (natural w) && nat_le (natural w) most_processes) then Some (natural w) else None

-- the processes that a word names between commas, of a picture of letters; none where there is no word
abbrev pub AreNamed : Picture → Option Word → List ℕ → Type 0
AreNamed named None of = of ≡ []
AreNamed picture.Letters (Some word) of = map process_said (between 44 word) ≡ map Some of
AreNamed picture.Suspicions (Some word) of = ⊥

-- one of the pieces is no process
abbrev pub HasNoProcess : List Word → Type 0
HasNoProcess pieces = (piece : Word) × Contains pieces piece × (process_said piece ≡ None)

-- the word names something that is no process, or it stands beside a picture of suspicions
abbrev pub NamesNone : Picture → Option Word → Type 0
NamesNone named None = ⊥
NamesNone picture.Letters (Some word) = HasNoProcess (between 44 word)
NamesNone picture.Suspicions (Some word) = Unit {0}

abbrev pub of_word : PictureTexts → Option Word
of_word words = option_map (λ w. w.now) words.of

-- where nothing is said, a picture begins at tick 0 and ends at the horizon
abbrev pub first_tick : Option ℕ → ℕ
first_tick from = unwrap_or from 0

abbrev pub end_of_ticks : Record → Option ℕ → ℕ
end_of_ticks s until = unwrap_or until s.horizon

-- the piece is the picture of the run of the files' scenario
pub record IsDrawAnswer (input : Option (List ℕ)) (texts : SourceTexts) (words : PictureTexts) (piece : List ℕ)
    : Type 0 where
  pub of : List ℕ
  pub are_named : AreNamed words.picture (of_word words) of
  pub scenario : Record
  pub is_scenario : IsScenario input texts scenario
  pub shows : Shows words.picture scenario of (first_tick words.from) (end_of_ticks scenario words.until) piece

-- the picture is refused for this: the processes and ticks asked for, or the letters that the scenario's run sends
abbrev pub IsRefused : Picture → Record → (of : List ℕ) (from until : ℕ) → DrawError → Type 0
IsRefused picture.Suspicions s of from until error = refusal s from until ≡ Some error
IsRefused picture.Letters s of from until error = (refusal s from until ≡ Some error)
    ⊎ ((letters : List Letter) × AreLetters s letters × (letters_refusal s letters of from until ≡ Some error))

-- the line of ticks that aren't those of a run, of which this is the last
abbrev pub line_of_ticks : (path : List ℕ) → (last : ℕ) → List ℕ
line_of_ticks path last = printable path ++ (codes ": Ticks: these ticks aren't those of the run, which are 0 to "
    ++ (decimal last ++ codes "\n"))

-- the line of a picture of the scenario's run that is refused for this
abbrev pub picture_line : (path : List ℕ) → Record → DrawError → List ℕ
picture_line path s picture_error.TooManyProcesses =
    line_with path (codes "TooManyProcesses: there are more than 16 processes")
picture_line path s picture_error.Ticks = line_of_ticks path (s.horizon - 1)
picture_line path s picture_error.TooManyLetters =
    line_with path (codes "TooManyLetters: there are more than 2,000 letters to draw")
picture_line path s (picture_error.Memory e) = []

-- the fault tells of this
abbrev pub TellsOf : (path : List ℕ) → Record → DrawError → Fault → Type 0
TellsOf path s error (NotDrawn told line) =
    (told ≡ error) × (IsMemory error → ⊥) × Says line (picture_line path s error)
TellsOf path s error Memory = IsMemory error
TellsOf path s error _ = ⊥

-- the fault is the picture's or the run's; the run isn't made where its processes or the ticks asked for are refused
abbrev pub IsOfPicture : (path : List ℕ) → Picture → Record → (of : List ℕ) (from until : ℕ) → Fault → Type 0
IsOfPicture path named s of from until (NotDrawn error line) =
    IsRefused named s of from until error × Says line (picture_line path s error)
IsOfPicture path named s of from until Limit = IsTooLong s × (refusal s from until ≡ None)
IsOfPicture path named s of from until Memory = Unit {0}
IsOfPicture path named s of from until _ = ⊥

-- the picture of the files' scenario with the processes that a word names is refused for this, and the line says why
pub record IsRefusedPicture (input : Option (List ℕ)) (texts : SourceTexts) (words : PictureTexts)
    (error : DrawError) (line : Option (String Global)) : Type 0 where
  pub of : List ℕ
  pub are_named : AreNamed words.picture (of_word words) of
  pub scenario : Record
  pub is_scenario : IsScenario input texts scenario
  pub refused : IsRefused words.picture scenario of (first_tick words.from) (end_of_ticks scenario words.until) error
  pub says : Says line (picture_line texts.path.now scenario error)

-- `draw` stops for its words, its files, a refused picture or run of their scenario, refused memory, or a failed write
abbrev pub StopsPicture : Option (List ℕ) → SourceTexts → PictureTexts → Fault → Type 0
StopsPicture input texts words (Words line) = NamesNone words.picture (of_word words) ⊎ SaysNoSources texts no_axes
StopsPicture input texts words (NotDrawn error line) = IsRefusedPicture input texts words error line
StopsPicture input texts words Limit = (s : Record) × IsScenario input texts s × IsTooLong s
    × (refusal s (first_tick words.from) (end_of_ticks s words.until) ≡ None)
StopsPicture input texts words WordsMemory = Unit {0}
StopsPicture input texts words Write = Unit {0}
StopsPicture input texts words fault = IsOfFile input texts fault
