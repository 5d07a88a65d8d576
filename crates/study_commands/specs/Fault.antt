-- The exit status of a fault, its line, and what it leaves of what was to be written.
use Rattle.{std.specs.Prelude.{ℕ, List, Some, None, codes, string_bytes}, study_commands.specs.declared.fault.Fault.{Fault, TheVariants.{Form, Limit, Memory, NotDrawn, Refused, Words, WordsMemory, Write}}}
use Rattle.shell.specs.Ending.{End, begun, cut, untouched}

-- 1: the file, a run's scenario or a picture is refused, 2: the words are, 3: a run is or memory was, 4: writing failed
abbrev pub status_of : Fault → ℕ
status_of Form = 2
status_of WordsMemory = 2
status_of (Words line) = 2
status_of (Refused line) = 1
status_of (NotDrawn error line) = 1
status_of Limit = 3
status_of Memory = 3
status_of Write = 4

-- only a sweep that memory ends leaves anything, and a failed write
abbrev pub end_of : Fault → End
end_of Write = cut
end_of Memory = begun
end_of _ = untouched

-- the line that is told of it: what a refusal has to say stands in it
abbrev pub line_of : Fault → List ℕ
line_of Form = codes "fdstudy: words: Form: the options of a study need --seeds\n"
line_of WordsMemory = codes "fdstudy: words: Memory\n"
line_of (Words line) = string_bytes line
line_of (Refused (Some line)) = string_bytes line
line_of (Refused None) = codes "fdstudy: refused, and no memory to say why\n"
line_of (NotDrawn error (Some line)) = string_bytes line
line_of (NotDrawn error None) = codes "fdstudy: refused, and no memory to say why\n"
line_of Limit = codes "fdstudy: run: Limit\n"
line_of Memory = codes "fdstudy: run: Memory\n"
line_of Write = codes "fdstudy: run: Write\n"

-- the fault comes before anything is written, for a reason that holds
abbrev pub IsBefore : (Holds : Fault → Type 0) → Fault → Type 0
IsBefore Holds Write = ⊥
IsBefore Holds fault = Holds fault

-- the fault is that a file or a run is refused
abbrev pub IsRefusal : Fault → Type 0
IsRefusal (Refused line) = Unit {0}
IsRefusal _ = ⊥

-- the fault is that words are refused, for a reason that holds, or that memory was while they were read
abbrev pub IsOfWordsFor : Type 0 → Fault → Type 0
IsOfWordsFor Holds (Words line) = Holds
IsOfWordsFor Holds WordsMemory = Unit {0}
IsOfWordsFor Holds _ = ⊥

-- for whatever reason
abbrev pub IsOfWords : Fault → Type 0
IsOfWords = IsOfWordsFor (Unit {0})
