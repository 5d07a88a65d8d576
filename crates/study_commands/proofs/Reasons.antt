-- Why commands stop, for each of their faults.
use Rattle.study_commands.proofs.Words.{◌⊎◌, ℕ, List, None, Option, String, Global, IsBefore, IsOfWordsFor, AreBytes, IsScenario, AreNoSources, IsBeforeReading, IsOfBytes, IsOfFile, IsOfOwnFile, IsOfSources, IsOfTable, IsRight, IsToldWith, IsUnread, refusal_text, FileRefusal, broken, HasNone, IsOfStudy, IsOfText, IsTooLong, StopsCheck, SaysNoSources, Fault, Limit, Memory, Refused, Words, WordsMemory, Write, IsDocumentOf, Record, GridRecord, SourceTexts}
use Rattle.{study_commands.specs.Refusal.{IsOfRun, StopsLetters}, study.specs.Laid.{RunSources}}

-- a fault that comes before anything is written is one
pub stops_so : (Holds : Fault → Type 0) (f : Fault) → IsBefore Holds f → Holds f
stops_so Holds Write is = absurd is
stops_so Holds _ is = is

-- words are refused, and for a reason of which another follows
pub words_as : (P Q : Type 0) (f : Fault) → IsOfWordsFor P f → (P → Q) → IsOfWordsFor Q f
words_as P Q (Words line) is then = then is
words_as P Q WordsMemory is then = tt
words_as P Q _ is then = absurd is

-- words are refused, and a command over a study stops for them
pub words_stop : (P OfWords : Type 0) (OfFile : Option (String Global) → Type 0) (f : Fault) → IsOfWordsFor P f
    → (P → OfWords) → IsBefore (IsOfStudy OfWords OfFile) f
words_stop P OfWords OfFile (Words line) is then = then is
words_stop P OfWords OfFile WordsMemory is then = tt
words_stop P OfWords OfFile _ is then = absurd is

module _ (input : Option (List ℕ)) (path : List ℕ) where
  -- what can't be read, and is told so
  pub unread_told : (r : FileRefusal) (f : Fault) → IsBeforeReading r → IsRight input path r
      → IsToldWith path (refusal_text r) f → IsUnread input path f
  unread_told r (Refused line) before right is = record { refusal = r; before = before; right = right; says = is }
  unread_told r _ before right is = absurd is

  -- its bytes are refused
  pub bytes_file : (bytes : List ℕ) (f : Fault) → AreBytes input path bytes → IsOfBytes path bytes f
      → IsOfOwnFile input path f
  bytes_file bytes (Refused line) are is =
      record { refusal = broken is.diagnosed; right = (bytes, are, is.refuses); says = is.says }
  bytes_file bytes Memory are is = tt
  bytes_file bytes _ are is = absurd is

  pub bytes_table : (bytes : List ℕ) (f : Fault) → AreBytes input path bytes → IsDocumentOf bytes None
      → IsOfBytes path bytes f → IsOfTable input path f
  bytes_table bytes (Refused line) are none is =
      record { refusal = broken is.diagnosed; right = (bytes, are, none, is.refuses); says = is.says }
  bytes_table bytes Memory are none is = tt
  bytes_table bytes _ are none is = absurd is

module _ (input : Option (List ℕ)) (texts : SourceTexts) where
  pub file_check : (f : Fault) → IsOfFile input texts f → IsBefore (StopsCheck input texts) f
  file_check Write is = absurd is
  file_check _ is = is

  pub file_letters : (f : Fault) → IsOfFile input texts f → IsBefore (StopsLetters input texts) f
  file_letters Write is = absurd is
  file_letters Limit is = absurd is
  file_letters _ is = is

  -- the run of its scenario is
  pub letters_of_run : (s : Record) (f : Fault) → IsScenario input texts s → IsOfRun s f
      → IsBefore (StopsLetters input texts) f
  letters_of_run s Limit at is = (s, at, is)
  letters_of_run s Memory at is = tt
  letters_of_run s _ at is = absurd is

  -- words that name files and set keys are refused, or the files, and a command over a study stops for that
  pub sources_stop : (OfWords : Type 0) (OfFile : Option (String Global) → Type 0) (g : GridRecord) (f : Fault)
      → IsOfSources input texts g f → (SaysNoSources texts g → OfWords)
      → ((line : Option (String Global)) → AreNoSources input texts line → OfFile line)
      → IsBefore (IsOfStudy OfWords OfFile) f
  sources_stop OfWords OfFile g (Words line) is words files = words is
  sources_stop OfWords OfFile g WordsMemory is words files = tt
  sources_stop OfWords OfFile g (Refused line) is words files = files line is
  sources_stop OfWords OfFile g Memory is words files = tt
  sources_stop OfWords OfFile g _ is words files = absurd is

-- a run has no text
pub study_text : (OfWords : Type 0) (OfFile : Option (String Global) → Type 0) (table : RunSources)
    (f : Fault) → IsOfText table f → (HasNone table ⊎ IsTooLong table → (line : Option (String Global)) → OfFile line)
    → IsBefore (IsOfStudy OfWords OfFile) f
study_text OfWords OfFile table (Refused line) is then = then is line
study_text OfWords OfFile table Memory is then = tt
study_text OfWords OfFile table _ is then = absurd is
