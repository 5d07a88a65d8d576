use Rattle.runs.proofs.{Words.{◌<◌, ◌^◌, [], length, arith, recording_same, recording_told}, Finishing.{finishes, refuses_after}}
use Rattle.{reporting.proofs.Fed.{on_ok, if_ok}, reporting.specs.Running.{IsRecording}}
use Rattle.runs.proofs.bench.bench_list.Goals as goal

pub returns-clause-done : goal.returns-clause-done
returns-clause-done g c =
    let S = c.args.scenario.now in
    let ranges = c.recall_ranges.ensures in
    let r = c.in_ok-run_list_into.ensures.recorded in
    let opened = c.in_ok-recording.recording in
    let is : IsRecording S c.args.print r.trace c.run_list_into.new.follower = recording_told S r.trace r.rising c.args.print opened c.run_list_into.new.follower (r.taken [] (recording_same opened)) c.in_ok-recording.ensures in
    let small : length r.trace < 2 ^ 64 = omega (arith, r.within, ranges.limit_high) in
    finishes S c.args.print _ _ _ _ r.trace (record { is_trace = r.is_trace; within = r.within }) ranges r.cause r.once c.write_recorded.result
    (on_ok c.write_recorded.result (λ w. w c.args.print r.trace is small) c.write_recorded.ensures.whole)
    (if_ok c.write_recorded.result (λ s w. w c.args.print r.trace is small) c.write_recorded.ensures.summed)

pub returns-clause-refused : goal.returns-clause-refused
returns-clause-refused g c =
    let S = c.args.scenario.now in
    let r = c.in_ok-run_list_into.ensures.recorded in
    let opened = c.in_ok-recording.recording in
    let is : IsRecording S c.args.print r.trace c.run_list_into.new.follower = recording_told S r.trace r.rising c.args.print opened c.run_list_into.new.follower (r.taken [] (recording_same opened)) c.in_ok-recording.ensures in
    let small : length r.trace < 2 ^ 64 = omega (arith, r.within, c.recall_ranges.ensures.limit_high) in
    refuses_after S c.args.print _ _ _ _ r.trace (record { is_trace = r.is_trace; within = r.within })
    c.write_recorded.result (λ e. c.write_recorded.ensures.part e c.args.print r.trace is small) c.write_recorded.ensures.memory c.write_recorded.ensures.only
