-- What becomes of runs.
use denote.Param.Members.{Shared}
use Rattle.std.specs.{Prelude.{List, ◌≡◌, ℕ, ◌+◌, ◌<◌, Option, Some, None, fold, length, set, slice_index_or}, Fn.{FnReturns}, Global.{Vec}}
use Rattle.{process_api.specs.Order.{EntryRecord}, scenario_record.specs.Record.{Record}, reporting.specs.declared.{durations.RunDurations.{RunDurations}, findings.RunFindings.{RunFindings}}}
use Rattle.runs.specs.{Finishing.{IsTraceWithin, IsLonger, MeasuresRun}, declared.trusts.Trusts.{Trusts}}

-- a run is done, and this is its trace; or it passed its limit
pub data RunResult : Type 0 where
  finished : (trace : List EntryRecord) → RunResult
  limited : RunResult

-- a run's result: its scenario's trace where that is within the limit, else that every trace of it is longer
abbrev pub IsResult : Record → RunResult → Type 0
IsResult S (finished trace) = IsTraceWithin S trace
IsResult S limited = IsLonger S

-- a run: its scenario, and what became of it
pub record Trial : Type 0 where
  pub scenario : Record
  pub result : RunResult

-- a run that is done, with this trace
abbrev pub done_run : Record → List EntryRecord → Trial
done_run S trace = record { scenario = S; result = finished trace }

-- a run that passed its limit
abbrev pub limited_run : Record → Trial
limited_run S = record { scenario = S; result = limited }

-- a fact of the run that is done of which these were found
abbrev pub ForMeasured : Record → RunFindings → RunDurations → Trusts → (Trial → Type 0) → Type 0
ForMeasured S findings durations trusts P =
    (found : MeasuresRun S findings durations trusts) → P (done_run S found.trace)

-- what a job gives for consecutive numbers, and how threads share them out
module _ {T : Type 0} where
  -- places in which these answers were put in turn, each into its own
  abbrev pub with_answers : List (Option T) → List (ℕ × T) → List (Option T)
  with_answers places answers = fold (λ places answer. set places answer.0 (Some answer.1)) places answers

  -- and those of each of these columns
  abbrev pub with_columns : List (Option T) → List (Vec (ℕ × T)) → List (Option T)
  with_columns places columns = fold (λ places column. with_answers places column.items) places columns

module _ {F T : Type 0} (g : Shared F (ℕ × Unit {0}) T) (job : F) where
  -- the i-th of the answers, from 0, is one that the job may give for the number first + i
  pub record AreAnswers (first count : ℕ) (answers : List T) : Type 0 where
    pub count_is : length answers ≡ count
    pub each : (i : ℕ) (d : T) → i < count → FnReturns g job (first + i, tt) (slice_index_or answers i d)

  -- an answer for the number that is so far from the first
  pub record IsPlaced (first count : ℕ) (placed : ℕ × T) : Type 0 where
    pub within : placed.0 < count
    pub gives : FnReturns g job (first + placed.0, tt) placed.1

  -- places, each empty or with an answer for its number, of which this is the first
  abbrev pub ArePlaces : ℕ → List (Option T) → Type 0
  ArePlaces first places = (i : ℕ) (answer : T) → slice_index_or places i None ≡ Some answer
      → FnReturns g job (first + i, tt) answer
