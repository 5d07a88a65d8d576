-- What followers of a run were told of its trace, all that is measured of it, and what is told in a few numbers.
use Rattle.std.specs.{Prelude.{◌≡◌, ℕ, ◌*◌, ◌-◌, ◌^◌, ◌≤◌, min, Bool, true, false, Option, None, Some, is_some, List, [], length, if◌then◌else◌, ◌<◌}, Global.{Vec}, List.{sum_by}}
use Rattle.{process_api.specs.{Answer.{HasFollowedWhere, IsWhere}, Order.{EntryRecord}, declared.print_choice.PrintChoice.{PrintChoice}}, scenario_record.specs.Record.{Record}}
use Rattle.judges.specs.{Pairs.{HasFollowed, IsDeciding}, declared.{outcomes.RunningOutcomes.{RunningOutcomes}, verdicts.Verdicts.{Verdicts}}, Verdicts.{verdicts}, Outcomes.{outcomes}}
use Rattle.reporting.specs.{Durations.{AreFollowing, AreDurations}, LayerPairs.{IsMetering}, ReportText.{printed, prints_report, prints_trace, Text, report_text}, Rows.{written}, TraceText.{Holds, trace_text}, Measures.{all_measures}}
use Rattle.reporting.specs.declared.{counts.Counts.{Counts}, layer.Layer.{Layer}, summary.Summary.{Summary}, trace_text.TraceText.{TraceText}, durations.RunDurations.{RunDurations}, findings.RunFindings.{RunFindings}}

-- the number of entries, the sums of their letters, and the outcomes of the processes
pub record IsSummary (S : Record) (trace : List EntryRecord) (summary : Summary) : Type 0 where
  pub entries : summary.entries ≡ length trace
  pub sent : summary.sent ≡ sum_by (λ e. e.sent) trace
  pub lost : summary.lost ≡ sum_by (λ e. e.lost) trace
  pub decided : summary.outcomes.items ≡ outcomes trace S.processes

-- the verdicts on layer 2, where there is a reduction
abbrev pub second_verdicts : Record → List EntryRecord → Option Verdicts
second_verdicts S trace = if is_some S.share then Some (verdicts S trace 2) else None

module _ (S : Record) where
  -- of a trace: its summary, verdicts on layer 1 and, with a reduction, on layer 2, and the measures of all pairs
  pub record AreFindings (trace : List EntryRecord) (found : RunFindings) : Type 0 where
    pub summary : IsSummary S trace found.summary
    pub first : found.first ≡ verdicts S trace 1
    pub second : found.second ≡ second_verdicts S trace
    pub measures : found.measures.items ≡ all_measures S trace

  -- how long each mistake of a trace was that ended
  pub record AreRunDurations (trace : List EntryRecord) (durations : RunDurations) : Type 0 where
    pub first : AreDurations S 1 trace durations.first
    pub second : is_some S.share ≡ true → AreDurations S 2 trace durations.second

-- the counts stay at the greatest number; each entry has less than 2^32 letters
pub record IsCounting (trace : List EntryRecord) (c : Counts) : Type 0 where
  pub entries : c.entries ≡ min (length trace) (2 ^ 64 - 1)
  pub sent : c.sent ≡ min (sum_by (λ e. e.sent) trace) (2 ^ 128 - 1)
  pub lost : c.lost ≡ min (sum_by (λ e. e.lost) trace) (2 ^ 128 - 1)
  pub sent_high : sum_by (λ e. e.sent) trace ≤ length trace * 2 ^ 32
  pub lost_high : sum_by (λ e. e.lost) trace ≤ length trace * 2 ^ 32

-- what is counted of all pairs on a layer and, where they are listed, the lengths of mistakes
pub record IsLayer (listed : Bool) (S : Record) (layer : ℕ) (trace : List EntryRecord) (l : Layer) : Type 0 where
  pub metering : IsMetering S layer trace l.pairs
  pub lengths : listed ≡ true → AreFollowing S layer trace l.lengths

-- what they were told, as they are put together
abbrev pub LayerFollowed : (first now : Layer) → List EntryRecord → Type 0
LayerFollowed first now told = (listed : Bool) → HasFollowed (IsLayer listed) first now told

abbrev pub LayersFollowed : (first now : Layer × Option Layer) → List EntryRecord → Type 0
LayersFollowed first now told = LayerFollowed first.0 now.0 told × HasFollowedWhere LayerFollowed first.1 now.1 told

abbrev pub SummingFollowed : (first now : Counts × RunningOutcomes) → List EntryRecord → Type 0
SummingFollowed first now told =
    (IsCounting [] first.0 → IsCounting told now.0) × ((n : ℕ) → IsDeciding n [] first.1 → IsDeciding n told now.1)

abbrev pub Running : Type 0
Running = (Counts × RunningOutcomes) × Option (Layer × Option Layer)

abbrev pub RunningFollowed : (first now : Running) → List EntryRecord → Type 0
RunningFollowed first now told = SummingFollowed first.0 now.0 told × HasFollowedWhere LayersFollowed first.1 now.1 told

-- ---- that they were fed with nothing, or with a trace

-- the text of rows, if there is one
abbrev pub rows_of : Option TraceText → Text
rows_of None = []
rows_of (Some t) = written t.writer

-- a text, where it is asked for
abbrev pub IsTextWhere : (asked : Bool) → Text → Option (Vec ℕ) → Type 0
IsTextWhere asked text told = IsWhere asked (λ (t : Vec ℕ). t.items ≡ text) told

module _ (listed : Bool) (S : Record) (trace : List EntryRecord) where
  -- layer 2, where there is a reduction
  abbrev pub IsSecond : Option Layer → Type 0
  IsSecond second = IsWhere (is_some S.share) (IsLayer listed S 2 trace) second

  abbrev pub AreLayers : Layer × Option Layer → Type 0
  AreLayers l = IsLayer listed S 1 trace l.0 × IsSecond l.1

module _ (S : Record) where
  abbrev pub IsSumming : List EntryRecord → Counts × RunningOutcomes → Type 0
  IsSumming trace s = IsCounting trace s.0 × IsDeciding S.processes trace s.1

  -- everything that is measured where a report is asked for, and else the summary alone
  abbrev pub IsRunning : List EntryRecord → (reported : Bool) → Running → Type 0
  IsRunning trace reported r = IsSumming trace r.0 × IsWhere reported (AreLayers false S trace) r.1

  -- what is told of the run: the summary, and the report where it is asked for
  pub record IsToldOf (trace : List EntryRecord) (reported : Bool) (told : Summary × Option (Vec ℕ)) : Type 0 where
    pub summary : IsSummary S trace told.0
    pub report : IsTextWhere reported (report_text S trace) told.1

  module _ (print : PrintChoice) (trace : List EntryRecord) where
    -- that, and the rows of the trace where it is asked for
    abbrev pub IsRecording : Running × Option TraceText → Type 0
    IsRecording r = IsRunning trace (prints_report print) r.0
        × IsWhere (prints_trace print) (λ (t : TraceText). Holds t (trace_text trace)) r.1

    -- the summary of the trace, and the texts that are asked for
    pub record TellsRun (told : Summary × Vec ℕ) : Type 0 where
      pub summary : IsSummary S trace told.0
      pub text : told.1.items ≡ printed print S trace

-- all that is measured
abbrev pub IsMeasuring : (listed : Bool) (S : Record) → List EntryRecord
    → (Counts × RunningOutcomes) × (Layer × Option Layer) → Type 0
IsMeasuring listed S trace m = IsSumming S trace m.0 × AreLayers listed S trace m.1

-- ---- what is told of a run, whatever trace it was that was followed, of less than 2^64 entries

-- what is measured tells these findings
abbrev pub TellsFindings : (Counts × RunningOutcomes) × (Layer × Option Layer) → RunFindings → Type 0
TellsFindings measuring found =
    (listed : Bool) (S : Record) (trace : List EntryRecord) → IsMeasuring listed S trace measuring
    → length trace < 2 ^ 64 → AreFindings S trace found

-- what follows a run tells this summary and, where it is asked for, this report
abbrev pub TellsOf : Record → Running → Summary × Option (Vec ℕ) → Type 0
TellsOf S running told = (trace : List EntryRecord) (reported : Bool) → IsRunning S trace reported running
    → length trace < 2 ^ 64 → IsToldOf S trace reported told

module _ (S : Record) (recording : Running × Option TraceText) where
  -- this holds of what is asked for of the run, and of its trace
  abbrev pub OfRecorded : (PrintChoice → List EntryRecord → Type 0) → Type 0
  OfRecorded holds = (print : PrintChoice) (trace : List EntryRecord) → IsRecording S print trace recording
      → length trace < 2 ^ 64 → holds print trace

  -- this holds of the texts that are asked for
  abbrev pub OfPrinted : (Text → Type 0) → Type 0
  OfPrinted holds = OfRecorded (λ print trace. holds (printed print S trace))
