-- Why an order isn't carried out: there is no scenario for it, its plan is refused, or its run is.
use Rattle.std.specs.Prelude.{◌≡◌, ◌⊎◌, ◌<◌, ℕ, List, length, false, Option, IfSome}
use Rattle.{command_line.specs.declared.order.Order.{Order}, windows.specs.Plan.{IsFirst, NoneApplies}}
use Rattle.command_line.specs.declared.order.Order.TheVariants as order
use Rattle.process_api.specs.declared.run_error.RunError.{RunError}
use Rattle.process_api.specs.declared.run_error.RunError.TheVariants as run
use Rattle.bench_commands.specs.{Answer.{path_of, IsScenarioAt, IsTooLong}, declared.{bench.Mode.{Mode}, fault.Fault.{Fault, TheVariants.{Plan, Run, Scenario, TooLong, Unreadable}}}}
use Rattle.bench_commands.specs.declared.bench.Mode.TheVariants as mode
use Rattle.{scenario.specs.{Refusals.{Refuses, is_memory}, declared.error.ScenarioError.{ScenarioError}}, scenario_record.specs.Record.{Record}, shell.specs.Ending.{AreAllOf, input_path, most_bytes}}

module _ (input : Option (List ℕ)) (path : List ℕ) where
  -- the file's bytes are refused. Of a path other than `-` they aren't known
  pub record IsRefusedAt (reason : ScenarioError) : Type 0 where
    pub bytes : List ℕ
    pub is_input : path ≡ input_path → AreAllOf input bytes
    pub refuses : Refuses bytes reason

  -- there is no scenario at the path: it can't be read, it is too long, it is refused, or memory was
  abbrev pub StopsBefore : Fault → Type 0
  StopsBefore Unreadable = Unit {0}
  StopsBefore TooLong = path ≡ input_path → IfSome input (λ all. most_bytes < length all)
  StopsBefore (Scenario reason) = is_memory reason ≡ false → IsRefusedAt reason
  StopsBefore _ = ⊥

module _ (s : Record) where
  -- the limit is a run's reason only where the trace is longer
  abbrev pub IsReason : RunError → Type 0
  IsReason run.Limit = IsTooLong s
  IsReason _ = Unit {0}

  -- by the list no thread is started, so none is refused
  abbrev pub IsListReason : RunError → Type 0
  IsListReason run.Spawn = ⊥
  IsListReason reason = IsReason reason

  abbrev pub StopsList : Fault → Type 0
  StopsList (Run reason) = IsListReason reason
  StopsList _ = ⊥

  -- by windows one may be
  abbrev pub StopsWindows : Fault → Type 0
  StopsWindows (Run reason) = IsReason reason
  StopsWindows _ = ⊥

  -- a run in a mode stops for this fault
  abbrev pub StopsBy : Mode → Fault → Type 0
  StopsBy mode.List fault = StopsList fault
  StopsBy (mode.Windows plan) fault = StopsWindows fault

  -- the plan is refused for the first reason that applies, or where there is none the run is
  abbrev pub StopsPlanned : (workers window : ℕ) → Fault → Type 0
  StopsPlanned workers window (Plan reason) = IsFirst s.lookahead workers window reason
  StopsPlanned workers window (Run reason) = NoneApplies s.lookahead workers window × IsReason reason
  StopsPlanned workers window _ = ⊥

  -- an order over the scenario stops for this fault
  abbrev pub StopsOver : Order → Fault → Type 0
  StopsOver (order.Check path) fault = fault ≡ Run run.Write
  StopsOver (order.List path print) fault = StopsList fault
  StopsOver (order.Run path workers window print) fault = StopsPlanned workers window fault
  StopsOver (order.Compare path workers window) fault = StopsPlanned workers window fault

-- an order isn't carried out for this fault
abbrev pub StopsFor : Option (List ℕ) → Order → Fault → Type 0
StopsFor input asked fault = StopsBefore input (path_of asked) fault
    ⊎ ((s : Record) × IsScenarioAt input (path_of asked) s × StopsOver s asked fault)
