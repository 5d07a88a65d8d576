use Rattle.qos_report.proofs.Words.{◌≡◌, ◌∙◌, ◌++◌, ◌∷◌, [], suc, sym, ap, subst, true, take, drop, arith, take_all, take_more, on_err, AreUnderWay, WroteFront, written, rows_text, Wrote, WrotePart, err_part, on_ok, split_at}
use Rattle.qos_report.proofs.Streamed.{all_out, front_more, part_out, under_way_first}
use Rattle.qos_report.proofs.streaming.write_rows.Goals as goal

pub returns-in_err-write_row-clause-front : goal.returns-in_err-write_row-clause-front
returns-in_err-write_row-clause-front g c =
    let told = g.O.Outlet.told in
    let failed = g.O.Outlet.failed in
    let es = c.args.entries.now in
    let i = c.loop-entry.entry-index in
    let entry = c.entry-item.result in
    on_err c.from_residual-in_err-write_row.result _
    (subst (WroteFront told failed c.args.outlet.now c.write_row.new.outlet true) (sym (split_at es i entry c.loop-entry-test.true c.entry-item.is))
    (front_more told failed true c.args.outlet.now c.write_row.new.outlet (take i es ++ entry ∷ []) (drop (suc i) es)
    (c.in_err-write_row.ensures.front c.args.outlet.now (take i es) c.loop-entry.invariant)))

pub loop-entry-init : goal.loop-entry-init
loop-entry-init g c = under_way_first g.O.Outlet.told g.O.Outlet.failed c.args.outlet.now c.in_ok-rows.rows c.in_ok-rows.ensures

pub loop-entry-preserved : goal.loop-entry-preserved
loop-entry-preserved g c =
    let es = c.args.entries.now in
    let i = c.loop-entry.entry-index in
    let entry = c.entry-item.result in
    subst (λ xs. AreUnderWay g.O.Outlet.told g.O.Outlet.failed c.args.outlet.now c.write_row.new.outlet xs c.write_row.new.rows)
    (sym (take_more es i entry c.loop-entry-test.true ∙ ap (λ e. take i es ++ e ∷ []) (sym c.entry-item.is)))
    (c.in_ok-write_row.ensures.whole c.args.outlet.now (take i es) c.loop-entry.invariant)

pub returns-clause-whole : goal.returns-clause-whole
returns-clause-whole g c =
    let told = g.O.Outlet.told in
    let failed = g.O.Outlet.failed in
    let es = c.args.entries.now in
    let i = c.loop-entry.entry-index in
    let text : c.deref.result.now ≡ written c.loop-entry.rows.writer = c.deref.ensures.value ∙ c.in_ok-text.ensures in
    on_ok c.write_text.result
    (λ w.
    subst (λ xs. Wrote told failed c.args.outlet.now c.write_text.new.outlet (rows_text xs)) (take_all i es (omega (arith, c.loop-entry-test.false)))
    (all_out told failed c.args.outlet.now c.loop-entry.outlet (take i es) c.loop-entry.rows c.loop-entry.invariant c.write_text.new.outlet
    (subst (Wrote told failed c.loop-entry.outlet c.write_text.new.outlet) text w)))
    c.write_text.ensures.whole

pub returns-clause-front : goal.returns-clause-front
returns-clause-front g c =
    let told = g.O.Outlet.told in
    let failed = g.O.Outlet.failed in
    let es = c.args.entries.now in
    let i = c.loop-entry.entry-index in
    let text : c.deref.result.now ≡ written c.loop-entry.rows.writer = c.deref.ensures.value ∙ c.in_ok-text.ensures in
    err_part c.write_text.result c.write_text.ensures.part c.write_text.ensures.only
    (λ w.
    subst (WroteFront told failed c.args.outlet.now c.write_text.new.outlet true) (take_all i es (omega (arith, c.loop-entry-test.false)))
    (part_out told failed c.args.outlet.now c.loop-entry.outlet (take i es) c.loop-entry.rows c.loop-entry.invariant c.write_text.new.outlet
    (subst (WrotePart told failed c.loop-entry.outlet c.write_text.new.outlet) text w)))
