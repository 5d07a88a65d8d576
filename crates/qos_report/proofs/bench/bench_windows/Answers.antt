use Rattle.qos_report.proofs.Words.{rules, ◌<◌, ◌^◌, ap, subst, refl, Err, Ok, length, arith, IsTrue, has_trace, setting_sound, setting_of, IsSound, Memory, Write, if_reason, report_text, IsTextWhere, Running, WroteFront, WroteWhere, rows_text, trace_header}
use Rattle.qos_report.proofs.Breaking.{breaks_at_close, breaks_at_opening, breaks_in_rows, breaks_in_write, part_in_header, part_in_report, wrote_printed}
use Rattle.{trace_laws.proofs.Effects.{trace_has_causes, trace_takes_once}, runs.proofs.Finishing.{finishes}}
use Rattle.qos_report.proofs.bench.bench_windows.Goals as goal

pub returns-clause-done : goal.returns-clause-done
returns-clause-done g c =
    let s = c.args.scenario.now in
    let told = g.O.Outlet.told in
    let failed = g.O.Outlet.failed in
    let ranges = c.recall_ranges.ensures in
    let sound : IsSound (setting_of s) = setting_sound s ranges in
    let took = c.in_ok-run.ensures.took in
    let trace = took.trace in
    let small : length trace < 2 ^ 64 = omega (arith, took.is_within.within, ranges.limit_high) in
    let is = c.in_ok-summary.ensures trace c.prints_report.result (took.measured c.prints_report.result c.in_ok-running.ensures) small in
    let traced = c.prints_trace-is_traced.ensures in
    finishes s c.args.print told failed c.args.outlet.now c.write_if_any.new.outlet trace took.is_within ranges
    (trace_has_causes (setting_of s) sound trace took.is_within.is_trace) (trace_takes_once (setting_of s) sound trace took.is_within.is_trace) (Ok c.in_ok-summary.summary)
    (wrote_printed s told failed trace c.args.print c.in_ok-summary.report c.args.outlet.now c.write_header.new.outlet c.stream_windows.new.outlet c.write_if_any.new.outlet
    (subst (λ t. WroteWhere told failed c.args.outlet.now c.write_header.new.outlet t trace_header) traced c.in_ok-write_header.ensures.whole)
    (subst (λ t. WroteWhere told failed c.write_header.new.outlet c.stream_windows.new.outlet t (rows_text trace)) traced took.written)
    (subst (λ t. IsTextWhere t (report_text s trace) c.in_ok-summary.report) c.prints_report.ensures is.report)
    c.in_ok-write_if_any.ensures.whole)
    is.summary

pub returns-in_err-running-clause-refused : goal.returns-in_err-running-clause-refused
returns-in_err-running-clause-refused g c =
    let s = c.args.scenario.now in
    let one = has_trace (setting_of s) (setting_sound s c.recall_ranges.ensures) in
    if_reason c.from_residual.result _ Memory (search rules)
    (breaks_at_opening s g.O.Outlet.told g.O.Outlet.failed one.0 c.args.print one.1 c.args.outlet.now)

pub returns-in_err-write_header-clause-refused : goal.returns-in_err-write_header-clause-refused
returns-in_err-write_header-clause-refused g c =
    let s = c.args.scenario.now in
    let told = g.O.Outlet.told in
    let failed = g.O.Outlet.failed in
    let one = has_trace (setting_of s) (setting_sound s c.recall_ranges.ensures) in
    let part = c.in_err-write_header.ensures.part in
    if_reason c.from_residual-in_err-write_header.result _ Write (search rules)
    (breaks_in_write s told failed one.0 c.args.print one.1 c.args.outlet.now c.write_header.new.outlet Write refl
    (part_in_header s told failed one.0 c.args.print c.args.outlet.now c.write_header.new.outlet (subst (λ t. IsTrue t) c.prints_trace-is_traced.ensures part.0) part.1))

pub returns-in_err-run-clause-refused : goal.returns-in_err-run-clause-refused
returns-in_err-run-clause-refused g c =
    let s = c.args.scenario.now in
    let told = g.O.Outlet.told in
    let failed = g.O.Outlet.failed in
    let one = has_trace (setting_of s) (setting_sound s c.recall_ranges.ensures) in
    let traced = c.prints_trace-is_traced.ensures in
    let reason = c.in_err-run.field-0.0 in
    if_reason c.from_residual-in_err-run.result _ reason (search rules)
    (breaks_in_rows s told failed one.0 c.args.print one.1 Running c.args.outlet.now c.write_header.new.outlet c.stream_windows.new.outlet reason
    (subst (λ t. WroteWhere told failed c.args.outlet.now c.write_header.new.outlet t trace_header) traced c.in_ok-write_header.ensures.whole)
    (subst (λ t. WroteFront told failed c.write_header.new.outlet c.stream_windows.new.outlet t one.0) traced (c.in_err-run.ensures.front one.0 one.1))
    c.in_err-run.ensures.count (λ is. c.in_err-run.ensures.limit (ap Err is)))

pub returns-in_err-summary-clause-refused : goal.returns-in_err-summary-clause-refused
returns-in_err-summary-clause-refused g c =
    let s = c.args.scenario.now in
    let told = g.O.Outlet.told in
    let failed = g.O.Outlet.failed in
    let took = c.in_ok-run.ensures.took in
    let traced = c.prints_trace-is_traced.ensures in
    if_reason c.from_residual-in_err-summary.result _ Memory (search rules)
    (breaks_at_close s told failed took.trace c.args.print took.is_within.is_trace c.args.outlet.now c.write_header.new.outlet c.stream_windows.new.outlet
    (subst (λ t. WroteWhere told failed c.args.outlet.now c.write_header.new.outlet t trace_header) traced c.in_ok-write_header.ensures.whole)
    (subst (λ t. WroteWhere told failed c.write_header.new.outlet c.stream_windows.new.outlet t (rows_text took.trace)) traced took.written))

pub returns-in_err-write_if_any-clause-refused : goal.returns-in_err-write_if_any-clause-refused
returns-in_err-write_if_any-clause-refused g c =
    let s = c.args.scenario.now in
    let told = g.O.Outlet.told in
    let failed = g.O.Outlet.failed in
    let took = c.in_ok-run.ensures.took in
    let trace = took.trace in
    let small : length trace < 2 ^ 64 = omega (arith, took.is_within.within, c.recall_ranges.ensures.limit_high) in
    let is = c.in_ok-summary.ensures trace c.prints_report.result (took.measured c.prints_report.result c.in_ok-running.ensures) small in
    let traced = c.prints_trace-is_traced.ensures in
    if_reason c.from_residual-in_err-write_if_any.result _ Write (search rules)
    (breaks_in_write s told failed trace c.args.print took.is_within.is_trace c.args.outlet.now c.write_if_any.new.outlet Write refl
    (part_in_report s told failed trace c.args.print c.in_ok-summary.report c.args.outlet.now c.write_header.new.outlet c.stream_windows.new.outlet c.write_if_any.new.outlet
    (subst (λ t. WroteWhere told failed c.args.outlet.now c.write_header.new.outlet t trace_header) traced c.in_ok-write_header.ensures.whole)
    (subst (λ t. WroteWhere told failed c.write_header.new.outlet c.stream_windows.new.outlet t (rows_text trace)) traced took.written)
    (subst (λ t. IsTextWhere t (report_text s trace) c.in_ok-summary.report) c.prints_report.ensures is.report)
    (c.in_err-write_if_any.ensures.part (ap Err c.in_err-write_if_any.ensures.only))))
