-- A run from its trace to its texts: what it leaves once it is done, and once it is refused.
use Rattle.runs.proofs.{Words.{◌≡◌, ◌≢◌, ℕ, ◌<◌, sym, subst, refl, List, length, Option, Result, Ok, Err, IfOk, IfErr, OnOk, setting_of, IsTrace, Agree, agrees, EntryRecord, IsInRange, Record}, Resting.{has_grounds}}
use Rattle.trace_laws.specs.History.{HasCauses, TakesOnce}
use Rattle.process_api.specs.declared.{run_error.RunError.{RunError, TheVariants.{Limit, Memory, Spawn, Write}}, print_choice.PrintChoice.{PrintChoice}}
use Rattle.reporting.specs.{ReportText.{printed}, Running.{IsSummary}, Outlet.{Wrote, WrotePart, WroteNothing}, declared.summary.Summary.{Summary}}
use Rattle.runs.specs.Finishing.{IsTraceWithin, Finishes, Refuses}

module _ (S : Record) (print : PrintChoice) {O : Type 0} (told : O → Option (List ℕ)) (failed : O → ℕ) (old new : O) where
  -- nothing was written yet
  pub refuses_before : (e : RunError) → e ≢ Write → (e ≡ Limit → (trace : List EntryRecord) → IsTrace (setting_of S) trace → S.limit < length trace)
      → told new ≡ told old → failed new ≡ failed old → Refuses S print told failed old new e
  refuses_before e other long bytes failures = record {
    write = λ is. absurd (other is);
    others = λ _. record { bytes = bytes; failures = failures };
    limit = long;
  }

  module _ (trace : List EntryRecord) (within : IsTraceWithin S trace) where
    pub finishes : IsInRange S → HasCauses (setting_of S) trace → TakesOnce (setting_of S) trace → (r : Result Summary RunError)
        → OnOk r (Wrote told failed old new (printed print S trace)) → IfOk r (IsSummary S trace)
        → IfOk r (Finishes S print told failed old new)
    finishes ranges causes once (Ok summary) text summed = record {
      trace = trace;
      is_within = within;
      text = text;
      summed = summed;
      causes = causes;
      once = once;
      agree = λ e. subst (Agree S) (sym summed.decided) (agrees S ranges e trace within.is_trace).agree;
      decides_once = λ e. (agrees S ranges e trace within.is_trace).once;
      grounds = has_grounds S ranges trace within.is_trace;
    }
    finishes ranges causes once (Err e) text summed = tt

    -- the texts were formed, or were being formed
    pub refuses_after : (r : Result Summary RunError)
        → (r ≡ Err Write → WrotePart told failed old new (printed print S trace)) → (r ≡ Err Memory → WroteNothing told failed old new)
        → (r ≢ Err Limit) × (r ≢ Err Spawn) → IfErr r (Refuses S print told failed old new)
    refuses_after (Ok summary) part nothing only = tt
    refuses_after (Err Limit) part nothing only = absurd (only.0 refl)
    refuses_after (Err Spawn) part nothing only = absurd (only.1 refl)
    refuses_after (Err Memory) part nothing only =
        let n = nothing refl in
        refuses_before Memory (λ e. cc e) (λ e. absurd (cc e)) n.bytes n.failures
    refuses_after (Err Write) part nothing only = record {
      write = λ _. (trace, within, part refl);
      others = λ other. absurd (other refl);
      limit = λ e. absurd (cc e);
    }
