-- What an order is answered with. What `letters` answers. What `show` answers.
use Rattle.std.specs.Prelude.{ℕ, List, Option, None, Some, Result, ◌≡◌, ◌+◌, ◌<◌, ◌≤◌, length}
use Rattle.{scenario_record.specs.Record.{Record}, study.specs.{Sources.{SourcesRecord}, Grid.{GridRecord, points, runs}, Placed.{sources_of_run}, Laid.{IsRunText}}}
use Rattle.study_commands.specs.{Check.{IsCheckAnswer, IsStudyCheck}, Draw.{IsDrawAnswer}, Fault.{end_of}, Sweep.{IsSweepAnswer, IsSweepFront}, declared.fault.Fault.{Fault}, File.{IsScenario, AreSources}, Study.{IsGrid}}
use Rattle.{shell.specs.Ending.{Goes, most_bytes}, study_line.specs.declared.order.{Order.{Order}, SourceTexts.{SourceTexts}, StudyTexts.{StudyTexts}, GridTexts.{GridTexts}}}
use Rattle.study_line.specs.declared.order.Order.TheVariants as order
use Rattle.{reporting.specs.{LettersText.{letters_text}, declared.letter.Letter.{Letter}}, runs.specs.Letters.{AreLetters}, sweep.specs.StudyText.{point_at, run_at}}

-- a number that counts from 1 has this place, counted from 0, among so many
pub record IsPlace (number count place : ℕ) : Type 0 where
  pub number_is : number ≡ place + 1
  pub is_low : place < count

-- the piece is the text of the run, one of the point's, which is one of the study's, and can be a file's
pub record IsShowAnswer (input : Option (List ℕ)) (texts : SourceTexts) (words : GridTexts) (point run : ℕ)
    (piece : List ℕ) : Type 0 where
  pub grid : GridRecord
  pub is_grid : IsGrid words grid
  pub sources : SourcesRecord
  pub are_sources : AreSources input texts grid sources
  pub point_place : ℕ
  pub is_point : IsPlace point (length (points grid)) point_place
  pub run_place : ℕ
  pub is_run : IsPlace run (length (runs grid)) run_place
  pub text : IsRunText (sources_of_run (point_at grid point_place) (run_at grid run_place) sources) piece
  pub is_short : length piece ≤ most_bytes

-- the piece is the text of the letters of the run of the files' scenario
pub record IsLettersAnswer (input : Option (List ℕ)) (texts : SourceTexts) (piece : List ℕ) : Type 0 where
  pub scenario : Record
  pub is_scenario : IsScenario input texts scenario
  pub letters : List Letter
  pub are_letters : AreLetters scenario letters
  pub text : piece ≡ letters_text letters

-- the piece is what a check says, of the files or of a study over them
abbrev pub IsChecked : Option (List ℕ) → SourceTexts → Option StudyTexts → List ℕ → Type 0
IsChecked input texts None piece = IsCheckAnswer input texts piece
IsChecked input texts (Some study) piece = IsStudyCheck input texts study piece

-- the piece is what the order asks for
abbrev pub Answers : Option (List ℕ) → Order → List ℕ → Type 0
Answers input (order.Check texts study) piece = IsChecked input texts study piece
Answers input (order.Letters texts) piece = IsLettersAnswer input texts piece
Answers input (order.Draw texts words) piece = IsDrawAnswer input texts words piece
Answers input (order.Show texts grid point run) piece = IsShowAnswer input texts grid point run piece
Answers input (order.Sweep texts study) piece = IsSweepAnswer input texts study piece

-- the piece is what is written for the order, as far as it comes: of a sweep the rows of the first points
abbrev pub Writes : Option (List ℕ) → Order → List ℕ → Type 0
Writes input (order.Sweep texts study) piece = IsSweepFront input texts study piece
Writes input asked piece = Answers input asked piece

-- the piece is what the order has left where memory ended it: only a sweep leaves anything
abbrev pub Leaves : Option (List ℕ) → Order → List ℕ → Type 0
Leaves input (order.Sweep texts study) piece = IsSweepFront input texts study piece
Leaves input _ piece = ⊥

-- what went out for an order: what it asks for, or what is left where it stops
abbrev pub GoesFor : {O A : Type 0} (told : O → Option (List ℕ)) (failed : O → ℕ) (old new : O) → Option (List ℕ)
    → Order → Result A Fault → Type 0
GoesFor told failed old new input asked outcome =
    Goes end_of told failed old new (Answers input asked) (Writes input asked) (Leaves input asked) outcome

-- the files that an order names, with what is set in them
abbrev pub texts_of : Order → SourceTexts
texts_of (order.Check texts study) = texts
texts_of (order.Letters texts) = texts
texts_of (order.Draw texts words) = texts
texts_of (order.Show texts grid point run) = texts
texts_of (order.Sweep texts study) = texts
