-- What went out, and what stands where a run stops.
use Rattle.bench_commands.proofs.Words.{◌≡◌, ◌≢◌, ◌⊎◌, ◌<◌, ap, subst, refl, inl, inr, ℕ, List, length, Option, arith, has_trace, one_trace, setting_of, AsksHelp, Explains, States, IsListAnswer, IsRunFront, LeavesBy, WritesBy, path_of, end_of, status_of, IsHelp, IsReason, IsRunAsked, TellsOf, StopsBefore, StopsBy, StopsFor, Different, Plan, Run, printed, prints_trace, Record}
use Rattle.{std.specs.Prelude.{IsTrue}, trace_laws.specs.{Setting.{IsSound}, World.{IsTrace}}}
use Rattle.process_api.specs.{declared.{run_error.RunError.{RunError}, print_choice.PrintChoice.{PrintChoice}}, Order.{EntryRecord}}
use Rattle.process_api.specs.declared.run_error.RunError.TheVariants as run
use Rattle.command_line.specs.declared.order.{Order.{Order}, WordsError.{WordsError}}
use Rattle.command_line.specs.declared.order.Order.TheVariants as order
use Rattle.command_line.specs.declared.order.WordsError.TheVariants as refusal
use Rattle.bench_commands.specs.{Answer.{IsTooLong, RefusesBy}, declared.{bench.Mode.{Mode}, fault.Fault.{Fault}}}
use Rattle.bench_commands.specs.declared.bench.Mode.TheVariants as mode
use Rattle.runs.specs.Finishing.{Finishes, WroteRows}
use Rattle.reporting.specs.{TraceText.{trace_text}, declared.summary.Summary.{Summary}, Outlet.{WroteNothing}}
use Rattle.{qos_report.proofs.Breaking.{breaks_at_opening}, shell.specs.Ending.{LeftAt, MayHaveGone, Went}}

-- ---- runs

module _ (s : Record) (print : PrintChoice) {O : Type 0} (told : O → Option (List ℕ)) (failed : O → ℕ) where
  -- the limit is the reason only where the trace is longer
  pub refused_long : (old new : O) (by : Mode) (reason : RunError) → RefusesBy by s print told failed old new reason → reason ≡ run.Limit → IsTooLong s
  refused_long old new mode.List reason refused is = refused.limit is
  refused_long old new (mode.Windows plan) reason broke is =
      λ trace whole. subst (λ t. s.limit < length t) (one_trace (setting_of s) trace broke.trace whole broke.is_trace) (broke.limit is)

  -- no machine could be made
  pub refused_at_machines : IsSound (setting_of s) → (old : O) (by : Mode) → RefusesBy by s print told failed old old run.Memory
  refused_at_machines sound old mode.List = record {
    write = λ is. let bad : run.Memory ≡ run.Write = is in cc;
    others = λ _. record { bytes = refl; failures = refl };
    limit = λ is. let bad : run.Memory ≡ run.Limit = is in cc;
  }
  refused_at_machines sound old (mode.Windows plan) =
      let one = has_trace (setting_of s) sound in breaks_at_opening s told failed one.0 print one.1 old

  module _ (old new : O) where
    -- what is left of a run that is refused
    abbrev Left : (IsWritten IsLeft : List ℕ → Type 0) → RunError → Type 0
    Left IsWritten IsLeft reason = LeftAt told failed old new IsWritten IsLeft (end_of (Run reason))

    -- a run is done
    pub list_done : (summary : Summary) → Finishes s print told failed old new summary → Went told failed old new (IsListAnswer s print)
    list_done summary finishes = record {
      piece = printed print s finishes.trace;
      is_wanted = record { trace = finishes.trace; is_within = finishes.is_within; text = refl };
      written = finishes.text;
    }

    -- a run by windows is refused, of which rows may have gone out
    left : (trace : List EntryRecord) → IsTrace (setting_of s) trace → {P : Type 0}
        → (IsTrue (prints_trace print) × WroteRows s print told failed old new trace) ⊎ (WroteNothing told failed old new × P)
        → MayHaveGone told failed old new (IsRunFront s print)
    left trace is (inl rows) = inr (record {
      piece = trace_text rows.1.first;
      is_wanted = record { asked = rows.0; first = rows.1.first; others = rows.1.others; is_trace = subst (IsTrace (setting_of s)) rows.1.all is; text = refl };
      written = rows.1.text;
    })
    left trace is (inr nothing) = inl nothing.0

    pub stops_by : (by : Mode) (reason : RunError) → RefusesBy by s print told failed old new reason
        → Left (WritesBy s by print) (LeavesBy s by print) reason
    stops_by mode.List run.Write refused =
        let part = refused.write refl in
        record { piece = printed print s part.0; is_wanted = record { trace = part.0; is_within = part.1; text = refl }; written = part.2 }
    stops_by mode.List _ refused = inl (refused.others (λ is. cc))
    stops_by (mode.Windows plan) run.Write broke =
        record { piece = printed print s broke.trace; is_wanted = record { trace = broke.trace; is_trace = broke.is_trace; text = refl }; written = broke.write refl }
    stops_by (mode.Windows plan) _ broke = left broke.trace broke.is_trace (broke.others (λ is. cc))

    pub why_by : (by : Mode) (reason : RunError) → RefusesBy by s print told failed old new reason → (by ≡ mode.List → reason ≢ run.Spawn)
        → StopsBy s by (Run reason)
    why_by mode.List run.Spawn refused other = absurd (other refl refl)
    why_by by run.Limit refused other = refused_long old new by run.Limit refused refl
    why_by _ _ refused other = tt

-- ---- statuses

before_three : (input : Option (List ℕ)) (path : List ℕ) (fault : Fault) → StopsBefore input path fault → status_of fault ≡ 3 → ⊥
before_three input path (Plan reason) is three = is
before_three input path (Run reason) is three = is
before_three input path Different is three = is
before_three input path _ is three = omega (arith, three)

-- status 3 is that of a run, of a scenario that is accepted
stopped_run : (input : Option (List ℕ)) (words : List (List ℕ)) (asked : Order) (fault : Fault) → States words asked → StopsFor input asked fault
    → status_of fault ≡ 3 → IsRunAsked input words
stopped_run input words asked fault stated (inl before) three = absurd (before_three input (path_of asked) fault before three)
stopped_run input words (order.Check path) fault stated (inr over) three =
    let bad : 4 ≡ 3 = subst (λ f. status_of f ≡ 3) over.2 three in absurd (omega (arith, bad))
stopped_run input words asked fault stated (inr over) three =
    record { asked = asked; stated = stated; is_run = tt; scenario = over.0; stands = over.1 }

-- words that state no order end with 2, or with 4 where help can't be written
pub unasked_status : (reason : WordsError) (fault : Fault) → TellsOf reason fault → (status_of fault ≡ 2) ⊎ (status_of fault ≡ 4)
unasked_status (refusal.Help text) fault is = inr (ap status_of is)
unasked_status _ fault is = inl (ap status_of is)

-- help is told only where it was asked for
pub answered : (words : List (List ℕ)) (reason : WordsError) → Explains words reason → IsHelp reason → AsksHelp words
answered words (refusal.Help text) explains is = explains
answered words _ explains is = absurd is

-- so 3 comes of an order alone
pub run_asked : (input : Option (List ℕ)) (words : List (List ℕ)) (fault : Fault) → IsReason input words fault → status_of fault ≡ 3 → IsRunAsked input words
run_asked input words fault (inr stopped) three = stopped_run input words stopped.asked fault stopped.stated stopped.why three
run_asked input words fault (inl unasked) three = absurd (omega (arith, three, unasked_status unasked.reason fault unasked.tells))
