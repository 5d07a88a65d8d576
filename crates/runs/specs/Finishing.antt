-- What a run leaves and tells. How often each process was trusted again, as it is counted.
use Rattle.std.specs.Prelude.{◌≡◌, ◌≢◌, ◌⊎◌, ◌<◌, ◌≤◌, ◌*◌, ◌^◌, ℕ, List, ◌++◌, length, Option, IsTrue, suc, ◌+◌, ◌-◌, min, get_or}
use Rattle.process_api.specs.{Order.{EntryRecord}, declared.{print_choice.PrintChoice.{PrintChoice}, run_error.RunError.{RunError, TheVariants.{Limit, Memory, Write}}}}
use Rattle.process_api.specs.declared.print_choice.PrintChoice.TheVariants as choice
use Rattle.{scenario_record.specs.{Record.{Record}, declared.algorithm.AlgorithmKind.TheVariants.{EventuallyStrong}}, trace_laws.specs.{History.{HasCauses, TakesOnce}, Setting.{setting_of}, World.{IsTrace}}}
use Rattle.{judges.specs.Agreement.{Agree, DecidesOnce}, detector_bounds.specs.Detected.{trusts}}
use Rattle.reporting.specs.{Running.{AreFindings, AreRunDurations, IsSummary}, ReportText.{printed, prints_trace, Text}, TraceText.{trace_text}, Outlet.{Wrote, WrotePart, WroteNothing}}
use Rattle.{reporting.specs.declared.{durations.RunDurations.{RunDurations}, findings.RunFindings.{RunFindings}, summary.Summary.{Summary}}, runs.specs.{Grounds.{HasGrounds}, declared.trusts.Trusts.{Trusts}}}

-- a count stays at the greatest number of 32 bits, should it reach it
abbrev pub most_trusts : ℕ
most_trusts = 2 ^ 32 - 1

-- the counts of n processes, by observer and then by subject
pub record AreCounts (n : ℕ) (of : (q p : ℕ) → ℕ) (counts : List ℕ) : Type 0 where
  pub square : length counts ≡ n * n
  pub each : (i j : ℕ) → i < n → j < n → get_or counts (i * n + j) 0 ≡ min (of (suc i) (suc j)) most_trusts

-- they say how often each process noted in a trace that it trusts each other again, on layer 1
pub record AreTrusts (n : ℕ) (trace : List EntryRecord) (t : Trusts) : Type 0 where
  pub processes : t.processes ≡ n
  pub counts : AreCounts n (trusts trace) t.counts.items

-- what was counted of observer q and subject p
abbrev pub trusts_of : Trusts → (q p : ℕ) → ℕ
trusts_of t q p = get_or t.counts.items ((q - 1) * t.processes + (p - 1)) 0

-- the scenario's trace, which is within its limit
pub record IsTraceWithin (S : Record) (trace : List EntryRecord) : Type 0 where
  pub is_trace : IsTrace (setting_of S) trace
  pub within : length trace ≤ S.limit

-- the scenario's trace has more entries than its limit
abbrev pub IsLonger : Record → Type 0
IsLonger S = (trace : List EntryRecord) → IsTrace (setting_of S) trace → S.limit < length trace

module _ (S : Record) (print : PrintChoice) {O : Type 0} (told : O → Option Text) (failed : O → ℕ) (old new : O) where
  -- a run is done: exactly the texts of the scenario's trace went out, and the summary is that trace's
  pub record Finishes (summary : Summary) : Type 0 where
    pub trace : List EntryRecord
    pub is_within : IsTraceWithin S trace
    pub text : Wrote told failed old new (printed print S trace)
    pub summed : IsSummary S trace summary
    -- each entry but the starts has an earlier one as its one cause; each event added below the horizon is one entry
    pub causes : HasCauses (setting_of S) trace
    pub once : TakesOnce (setting_of S) trace
    -- with the rotating coordinator outcomes agree, a process decides at most once, and none notes an end with no value
    pub agree : S.algorithm ≡ EventuallyStrong → Agree S summary.outcomes.items
    pub decides_once : S.algorithm ≡ EventuallyStrong → (p : ℕ) → DecidesOnce trace p
    -- the report's verdicts mean what their quantifiers say, and what is suspected on layer 2 rests on layer 1
    pub grounds : HasGrounds S trace

  -- a run is refused: where a put failed, a front part of these texts went out; nothing went out for any other reason
  pub record Refuses (reason : RunError) : Type 0 where
    pub write : reason ≡ Write
        → (trace : List EntryRecord) × IsTraceWithin S trace × WrotePart told failed old new (printed print S trace)
    pub others : reason ≢ Write → WroteNothing told failed old new
    -- the limit is the reason only where the scenario's trace is longer
    pub limit : reason ≡ Limit → (trace : List EntryRecord) → IsTrace (setting_of S) trace → S.limit < length trace

  -- the header and the rows of the first entries of a trace went out, and no put failed
  pub record WroteRows (trace : List EntryRecord) : Type 0 where
    pub first : List EntryRecord
    pub others : List EntryRecord
    pub all : trace ≡ first ++ others
    pub text : Wrote told failed old new (trace_text first)

  -- a run by windows breaks off: a front part of these texts went out, of the scenario's trace whatever its length
  pub record BreaksOff (reason : RunError) : Type 0 where
    pub trace : List EntryRecord
    pub is_trace : IsTrace (setting_of S) trace
    -- a put failed
    pub write : reason ≡ Write → WrotePart told failed old new (printed print S trace)
    -- no put failed: where the trace is asked for, its header and whole rows went out, or nothing did because memory
    -- was refused at the opening; where the report alone is asked for, nothing went out
    pub others : reason ≢ Write → (IsTrue (prints_trace print) × WroteRows trace)
        ⊎ (WroteNothing told failed old new × ((reason ≡ Memory) ⊎ (print ≡ choice.Report)))
    -- the limit is the reason only where the trace is longer
    pub limit : reason ≡ Limit → S.limit < length trace

-- a run is measured: what was found is that of the scenario's trace, which is within its limit
pub record MeasuresRun (S : Record) (found : RunFindings) (durations : RunDurations) (trusts : Trusts) : Type 0 where
  pub trace : List EntryRecord
  pub is_within : IsTraceWithin S trace
  pub measured : AreFindings S trace found
  pub lasted : AreRunDurations S trace durations
  pub trusted : AreTrusts S.processes trace trusts
  -- each entry has less than 2^32 letters
  pub sent_high : found.summary.sent ≤ length trace * 2 ^ 32
  pub lost_high : found.summary.lost ≤ length trace * 2 ^ 32
  -- each entry but the starts has an earlier one as its one cause; each event added below the horizon is one entry
  pub causes : HasCauses (setting_of S) trace
  pub once : TakesOnce (setting_of S) trace
  -- with the rotating coordinator outcomes agree, a process decides at most once, and none notes an end with no value
  pub agree : S.algorithm ≡ EventuallyStrong → Agree S found.summary.outcomes.items
  pub decides_once : S.algorithm ≡ EventuallyStrong → (p : ℕ) → DecidesOnce trace p
  -- the verdicts that were found mean what their quantifiers say, and what is suspected on layer 2 rests on layer 1
  pub grounds : HasGrounds S trace
