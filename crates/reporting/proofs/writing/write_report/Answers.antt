use Rattle.reporting.proofs.{Words.{rules, ◌<◌, ◌^◌, ◌∙◌, [], true, ap, subst, length, report_text, Wrote, WrotePart}, Fed.{on_ok, text_items}, Followed.{running_same, running_told}}
use Rattle.reporting.proofs.writing.write_report.Goals as goal

pub returns-clause-whole : goal.returns-clause-whole
returns-clause-whole g c =
    let s = c.args.scenario.now in
    let trace = c.entries.result.now in
    let opened = c.in_ok-running.running in
    let small : length trace < 2 ^ 64 = search rules in
    let is = c.in_ok-_summary.ensures trace true (running_told s trace c.entries.ensures.rising true opened c.follow_all.new.follower (c.in_ok-follow_all.ensures opened [] (running_same opened)) c.in_ok-running.ensures) small in
    on_ok c.write_if_any.result
    (subst (Wrote g.O.Outlet.told g.O.Outlet.failed c.args.outlet.now c.write_if_any.new.outlet) (text_items (report_text s trace) c.in_ok-_summary.report is.report ∙ ap (report_text s) c.entries.ensures.value))
    c.write_if_any.ensures.whole

pub returns-clause-part : goal.returns-clause-part
returns-clause-part g c = λ failed.
    let s = c.args.scenario.now in
    let trace = c.entries.result.now in
    let opened = c.in_ok-running.running in
    let small : length trace < 2 ^ 64 = search rules in
    let is = c.in_ok-_summary.ensures trace true (running_told s trace c.entries.ensures.rising true opened c.follow_all.new.follower (c.in_ok-follow_all.ensures opened [] (running_same opened)) c.in_ok-running.ensures) small in
    subst (WrotePart g.O.Outlet.told g.O.Outlet.failed c.args.outlet.now c.write_if_any.new.outlet) (text_items (report_text s trace) c.in_ok-_summary.report is.report ∙ ap (report_text s) c.entries.ensures.value)
    (c.write_if_any.ensures.part failed)
