-- Why an order isn't carried out: which of its words, its files or its runs are refused.
use Rattle.std.specs.{Prelude.{◌≡◌, ◌⊎◌, ◌<◌, ℕ, List, length, false, Option, None, Some, String}, declared.alloc.Global.{Global}}
use Rattle.study_commands.specs.{Draw.{StopsPicture}, File.{AreSources}, Refusal.{AreNoSources, IsOfFile, StopsLetters}, Answer.{IsPlace}, Study.{IsGrid, IsLayout, IsShardOf, columns_word, pairs_words, shard_word}}
use Rattle.study_commands.specs.{WordRefusals.{IsOutside, SaysNoGrid, SaysNoLayout, SaysNoShard, SaysNoSources}, declared.fault.Fault.{Fault, TheVariants.{Memory, Refused, Words, WordsMemory, Write}}}
use Rattle.study.specs.{Grid.{GridRecord, points, runs, ShardRecord}, Placed.{sources_of_run}, Laid.{HasNoText, IsRunText, RunSources, is_text_memory}, declared.error.TextError.{TextError}, Sources.{SourcesRecord}}
use Rattle.{shell.specs.Ending.{most_bytes}, study_line.specs.declared.order.{GridTexts.{GridTexts}, SourceTexts.{SourceTexts}, StudyTexts.{StudyTexts}, Order.{Order}}}
use Rattle.study_line.specs.declared.order.Order.TheVariants as order
use Rattle.sweep.specs.{Layout.{LayoutRecord}, Outcome.{IsFirstUnready}, StudyText.{point_at, run_at}, declared.error.SweepError.{SweepError}}

-- a command over a study stops for its words, its files or a run, because memory was refused, or at a failed write
abbrev pub IsOfStudy : (OfWords : Type 0) (OfFile : Option (String Global) → Type 0) → Fault → Type 0
IsOfStudy OfWords OfFile (Words line) = OfWords
IsOfStudy OfWords OfFile WordsMemory = Unit {0}
IsOfStudy OfWords OfFile (Refused line) = OfFile line
IsOfStudy OfWords OfFile Memory = Unit {0}
IsOfStudy OfWords OfFile Write = Unit {0}
IsOfStudy OfWords OfFile _ = ⊥

-- the run has no text, for a reason other than memory
pub record HasNone (r : RunSources) : Type 0 where
  pub reason : TextError
  pub other : is_text_memory reason ≡ false
  pub has_none : HasNoText r reason

-- its text is longer than a file may be
pub record IsTooLong (r : RunSources) : Type 0 where
  pub text : List ℕ
  pub is_text : IsRunText r text
  pub long : most_bytes < length text

-- the fault is that a run has no text that can be a file's, or that memory was refused
abbrev pub IsOfText : RunSources → Fault → Type 0
IsOfText r (Refused line) = HasNone r ⊎ IsTooLong r
IsOfText r Memory = Unit {0}
IsOfText r _ = ⊥

module _ (input : Option (List ℕ)) (texts : SourceTexts) where
  -- `check` stops for its words, for its files, because memory was refused, or at a failed write
  abbrev pub StopsCheck : Fault → Type 0
  StopsCheck Write = Unit {0}
  StopsCheck fault = IsOfFile input texts fault

  module _ (words : GridTexts) where
    module _ (point run : ℕ) where
      -- the words say no grid, or one that has no such point or run, or over which they say no files
      abbrev pub NamesNoRun : Type 0
      NamesNoRun = SaysNoGrid words
          ⊎ ((g : GridRecord) × IsGrid words g
          × (IsOutside point (length (points g)) ⊎ (IsOutside run (length (runs g)) ⊎ SaysNoSources texts g)))

      -- the run has no text that can be a file's
      pub record IsUnshown : Type 0 where
        pub grid : GridRecord
        pub is_grid : IsGrid words grid
        pub sources : SourcesRecord
        pub are_sources : AreSources input texts grid sources
        pub point_place : ℕ
        pub is_point : IsPlace point (length (points grid)) point_place
        pub run_place : ℕ
        pub is_run : IsPlace run (length (runs grid)) run_place
        pub none : let r = sources_of_run (point_at grid point_place) (run_at grid run_place) sources in
            HasNone r ⊎ IsTooLong r

      abbrev pub StopsShow : Fault → Type 0
      StopsShow = IsOfStudy NamesNoRun (λ line. AreNoSources input texts line ⊎ IsUnshown)

  module _ (study : StudyTexts) where
    -- a run of the study can't be run, of the shard's where one is named, and each before it can
    pub record HasRefusedRun : Type 0 where
      pub grid : GridRecord
      pub is_grid : IsGrid study.grid grid
      pub sources : SourcesRecord
      pub are_sources : AreSources input texts grid sources
      pub shard : ShardRecord
      pub is_shard : IsShardOf (shard_word study) shard
      pub point : ℕ
      pub run : ℕ
      pub layout : LayoutRecord
      pub is_layout : IsLayout study.each (pairs_words study) (columns_word study) grid layout
      pub reason : SweepError
      pub first : IsFirstUnready sources grid layout.groups shard point run reason

    -- a command over a study and its file stops for words, for the file or for a run
    abbrev pub StopsRuns : (OfWords : Type 0) → Fault → Type 0
    StopsRuns OfWords = IsOfStudy OfWords (λ line. AreNoSources input texts line ⊎ HasRefusedRun)

    -- the words say no grid, no shard, no group of pairs, columns that its rows don't have, or no files
    abbrev pub SaysNoSweep : Type 0
    SaysNoSweep = SaysNoGrid study.grid
        ⊎ (SaysNoShard (shard_word study)
        ⊎ ((g : GridRecord) × IsGrid study.grid g
        × (SaysNoLayout study.each (pairs_words study) (columns_word study) g ⊎ SaysNoSources texts g)))

    -- `check` of a study stops where `sweep` does before the first run
    abbrev pub StopsSweep : Fault → Type 0
    StopsSweep = StopsRuns SaysNoSweep

-- a check stops for this fault, of the files or of a study over them
abbrev pub StopsChecked : Option (List ℕ) → SourceTexts → Option StudyTexts → Fault → Type 0
StopsChecked input texts None fault = StopsCheck input texts fault
StopsChecked input texts (Some study) fault = StopsSweep input texts study fault

-- an order isn't carried out for this fault
abbrev pub StopsFor : Option (List ℕ) → Order → Fault → Type 0
StopsFor input (order.Check texts study) fault = StopsChecked input texts study fault
StopsFor input (order.Letters texts) fault = StopsLetters input texts fault
StopsFor input (order.Draw texts words) fault = StopsPicture input texts words fault
StopsFor input (order.Show texts grid point run) fault = StopsShow input texts grid point run fault
StopsFor input (order.Sweep texts study) fault = StopsSweep input texts study fault
