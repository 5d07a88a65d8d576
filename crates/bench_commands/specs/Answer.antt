-- What an order is answered with. The scenario that a path names.
use Rattle.std.specs.Prelude.{◌≡◌, ℕ, List, ◌++◌, codes, Option, IsTrue, Result, ◌<◌, ◌≤◌, length, IfSome}
use Rattle.command_line.specs.declared.order.Order.{Order}
use Rattle.command_line.specs.declared.order.Order.TheVariants as order
use Rattle.{trace_laws.specs.{Setting.{setting_of}, World.{IsTrace}}, bench_commands.specs.{Fault.{end_of}, declared.{bench.Mode.{Mode}, fault.Fault.{Fault}}}}
use Rattle.bench_commands.specs.declared.bench.Mode.TheVariants as mode
use Rattle.{process_api.specs.{declared.{print_choice.PrintChoice.{PrintChoice, TheVariants.{Both}}, run_error.RunError.{RunError}}, Order.{EntryRecord}}, reporting.specs.{ReportText.{printed, prints_trace}, TraceText.{trace_text}}}
use Rattle.{runs.specs.Finishing.{IsTraceWithin, BreaksOff, Refuses}, scenario_record.specs.Record.{Record}, scenario.specs.Refusals.{Accepts}, shell.specs.Ending.{Goes, input_path, most_bytes}, windows.specs.Plan.{NoneApplies, IsPlanFor}}

-- the scenario is that of the file's bytes, which are not too many. Of a path other than `-` they aren't known
pub record IsScenarioAt (input : Option (List ℕ)) (path : List ℕ) (s : Record) : Type 0 where
  pub bytes : List ℕ
  pub is_short : length bytes ≤ most_bytes
  pub is_input : path ≡ input_path → IfSome input (λ all. bytes ≡ all)
  pub accepted : Accepts bytes s

-- the scenario's trace has more entries than its limit
abbrev pub IsTooLong : Record → Type 0
IsTooLong s = (trace : List EntryRecord) → IsTrace (setting_of s) trace → s.limit < length trace

module _ (s : Record) where
  -- `list` and `run` answer with the texts of the scenario's trace, which is within its limit
  pub record IsListAnswer (print : PrintChoice) (piece : List ℕ) : Type 0 where
    pub trace : List EntryRecord
    pub is_within : IsTraceWithin s trace
    pub text : piece ≡ printed print s trace

  -- a run by windows writes the texts of the scenario's trace, which may turn out to be longer than the limit
  pub record IsRunText (print : PrintChoice) (piece : List ℕ) : Type 0 where
    pub trace : List EntryRecord
    pub is_trace : IsTrace (setting_of s) trace
    pub text : piece ≡ printed print s trace

  -- where a refused run by windows is asked for the trace, it has left its header and the rows of its first entries
  pub record IsRunFront (print : PrintChoice) (piece : List ℕ) : Type 0 where
    pub asked : IsTrue (prints_trace print)
    pub first : List EntryRecord
    pub others : List EntryRecord
    pub is_trace : IsTrace (setting_of s) (first ++ others)
    pub text : piece ≡ trace_text first

  -- `compare` answers that both ways to run the scenario write the same texts
  pub record IsCompareAnswer (piece : List ℕ) : Type 0 where
    pub trace : List EntryRecord
    pub is_within : IsTraceWithin s trace
    pub text : piece ≡ codes "same\n"

  -- what an order over the scenario is answered with; a run by windows answers as `list`, if its plan isn't refused
  abbrev pub AnswersOver : Order → List ℕ → Type 0
  AnswersOver (order.Check path) piece = piece ≡ codes "ok\n"
  AnswersOver (order.List path print) piece = IsListAnswer print piece
  AnswersOver (order.Run path workers window print) piece =
      NoneApplies s.lookahead workers window × IsListAnswer print piece
  AnswersOver (order.Compare path workers window) piece = NoneApplies s.lookahead workers window × IsCompareAnswer piece

  -- the piece is what is written for the order, as long as nothing fails
  abbrev pub WritesOver : Order → List ℕ → Type 0
  WritesOver (order.Run path workers window print) piece =
      NoneApplies s.lookahead workers window × IsRunText print piece
  WritesOver asked piece = AnswersOver asked piece

  -- the piece is what a refused run of the order has left: only one by windows leaves anything
  abbrev pub LeavesOver : Order → List ℕ → Type 0
  LeavesOver (order.Run path workers window print) piece =
      NoneApplies s.lookahead workers window × IsRunFront print piece
  LeavesOver _ piece = ⊥

  -- what a run in a mode writes as long as nothing fails, and what it leaves where it is refused: nothing by the list
  abbrev pub WritesBy : Mode → PrintChoice → List ℕ → Type 0
  WritesBy mode.List print piece = IsListAnswer print piece
  WritesBy (mode.Windows plan) print piece = IsRunText print piece

  abbrev pub LeavesBy : Mode → PrintChoice → List ℕ → Type 0
  LeavesBy mode.List print piece = ⊥
  LeavesBy (mode.Windows plan) print piece = IsRunFront print piece

  -- what went out for a run in a mode: its texts, or what is left where it stops
  abbrev pub GoesBy : {O A : Type 0} (told : O → Option (List ℕ)) (failed : O → ℕ) (old new : O) → Mode → PrintChoice
      → Result A Fault → Type 0
  GoesBy told failed old new by print outcome =
      Goes end_of told failed old new (IsListAnswer print) (WritesBy by print) (LeavesBy by print) outcome

  -- what went out for the order: what it asks for, or what is left where it stops
  abbrev pub GoesOver : {O A : Type 0} (told : O → Option (List ℕ)) (failed : O → ℕ) (old new : O) → Order
      → Result A Fault → Type 0
  GoesOver told failed old new asked outcome =
      Goes end_of told failed old new (AnswersOver asked) (WritesOver asked) (LeavesOver asked) outcome

-- the path that an order names
abbrev pub path_of : Order → List ℕ
path_of (order.Check path) = path.now
path_of (order.List path print) = path.now
path_of (order.Run path workers window print) = path.now
path_of (order.Compare path workers window) = path.now

module _ (input : Option (List ℕ)) (asked : Order) (piece : List ℕ) where
  -- the same, over the scenario at the order's path
  abbrev pub Answers : Type 0
  Answers = (s : Record) × IsScenarioAt input (path_of asked) s × AnswersOver s asked piece

  abbrev pub Writes : Type 0
  Writes = (s : Record) × IsScenarioAt input (path_of asked) s × WritesOver s asked piece

  abbrev pub Leaves : Type 0
  Leaves = (s : Record) × IsScenarioAt input (path_of asked) s × LeavesOver s asked piece

-- what went out for an order: what it asks for, or what is left where it stops
abbrev pub GoesFor : {O A : Type 0} (told : O → Option (List ℕ)) (failed : O → ℕ) (old new : O)
    → Option (List ℕ) → Order → Result A Fault → Type 0
GoesFor told failed old new input asked outcome =
    Goes end_of told failed old new (Answers input asked) (Writes input asked) (Leaves input asked) outcome

-- the order asks for a run
abbrev pub AsksRun : Order → Type 0
AsksRun (order.Check path) = ⊥
AsksRun _ = Unit {0}

-- the bytes are both texts of the scenario's trace, which is within its limit
pub record IsWritten (S : Record) (bytes : List ℕ) : Type 0 where
  pub trace : List EntryRecord
  pub is_within : IsTraceWithin S trace
  pub text : bytes ≡ printed Both S trace

-- windows are no longer than the scenario's lookahead
abbrev pub IsModeFor : Record → Mode → Type 0
IsModeFor s mode.List = Unit {0}
IsModeFor s (mode.Windows plan) = IsPlanFor s plan

-- what a refused run leaves: by windows a front part of its texts may have gone out
abbrev pub RefusesBy : Mode → (s : Record) (print : PrintChoice) {O : Type 0} (told : O → Option (List ℕ))
    (failed : O → ℕ) (old new : O) → RunError → Type 0
RefusesBy mode.List s print told failed old new reason = Refuses s print told failed old new reason
RefusesBy (mode.Windows plan) s print told failed old new reason = BreaksOff s print told failed old new reason
