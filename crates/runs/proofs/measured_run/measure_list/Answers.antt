use Rattle.runs.proofs.{Words.{◌<◌, ◌^◌, [], length, arith, sym, subst, true, Agree, agrees, measuring_same, measuring_told}, Resting.{has_grounds}}
use Rattle.runs.proofs.measured_run.measure_list.Goals as goal

pub returns-clause-done : goal.returns-clause-done
returns-clause-done g c =
    let S = c.args.scenario.now in
    let ranges = c.recall_ranges.ensures in
    let r = c.in_ok-run_list_into.ensures.recorded in
    let opened = c.in_ok-measuring.measuring in
    let followed = r.taken [] (measuring_same opened, λ n h. h) in
    let told = measuring_told S r.trace r.rising true opened c.run_list_into.new.follower.0 followed.0 c.in_ok-measuring.ensures in
    let small : length r.trace < 2 ^ 64 = omega (arith, r.within, ranges.limit_high) in
    let found = c.in_ok-findings.ensures.found true S r.trace told small in
    let counts = told.0.0 in
    record {
      trace = r.trace;
      is_within = record { is_trace = r.is_trace; within = r.within };
      measured = found;
      lasted = c.in_ok-findings.ensures.lasted S r.trace told;
      trusted = followed.1 S.processes c.in_ok-trusts.ensures;
      sent_high = omega (arith, found.summary.sent, counts.sent_high);
      lost_high = omega (arith, found.summary.lost, counts.lost_high);
      causes = r.cause;
      once = r.once;
      agree = λ e. subst (Agree S) (sym found.summary.decided) (agrees S ranges e r.trace r.is_trace).agree;
      decides_once = λ e. (agrees S ranges e r.trace r.is_trace).once;
      grounds = has_grounds S ranges r.trace r.is_trace;
    }
