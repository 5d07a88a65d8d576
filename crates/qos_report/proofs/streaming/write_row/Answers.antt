use Rattle.qos_report.proofs.{Words.{◌≡◌, ◌∙◌, ◌++◌, ◌∷◌, [], length, ap, subst, arith, Err, length-append, on_err, written, handed, Wrote, WrotePart}, Streamed.{all_gone, part_out, row_kept}}
use Rattle.csv.specs.Writing.{writer_pending}
use Rattle.qos_report.proofs.streaming.write_row.Goals as goal

pub returns-in_err-write_text-clause-front : goal.returns-in_err-write_text-clause-front
returns-in_err-write_text-clause-front g c =
    let told = g.O.Outlet.told in
    let failed = g.O.Outlet.failed in
    let entry = c.args.entry.now in
    let text : c.deref.result.now ≡ written c.push.new.self.writer = c.deref.ensures.value ∙ c.in_ok-text.ensures.text in
    on_err c.from_residual-in_err-write_text.result _
    (λ first entries way.
    part_out told failed first c.args.outlet.now (entries ++ entry ∷ []) c.push.new.self
    (row_kept told failed first c.args.outlet.now entries c.args.rows.now way entry c.push.new.self c.in_ok-push.ensures)
    c.write_text.new.outlet
    (subst (WrotePart told failed c.args.outlet.now c.write_text.new.outlet) text (c.in_err-write_text.ensures.part (ap Err c.in_err-write_text.ensures.only))))

pub returns-in_ok-write_text-clause-whole : goal.returns-in_ok-write_text-clause-whole
returns-in_ok-write_text-clause-whole g c =
    let told = g.O.Outlet.told in
    let failed = g.O.Outlet.failed in
    let entry = c.args.entry.now in
    let text : c.deref.result.now ≡ written c.push.new.self.writer = c.deref.ensures.value ∙ c.in_ok-text.ensures.text in
    λ first entries way.
    all_gone told failed first c.args.outlet.now (entries ++ entry ∷ []) c.push.new.self
    (row_kept told failed first c.args.outlet.now entries c.args.rows.now way entry c.push.new.self c.in_ok-push.ensures)
    c.write_text.new.outlet c.take_text.new.self
    (subst (Wrote told failed c.args.outlet.now c.write_text.new.outlet) text c.in_ok-write_text.ensures.whole) c.in_ok-text.ensures.nothing

pub returns-in_ok-write_text-clause-short : goal.returns-in_ok-write_text-clause-short
returns-in_ok-write_text-clause-short g c =
    let left = c.take_text.new.self in
    let none : length (written left.writer) ≡ 0 = ap length c.in_ok-text.ensures.nothing.is in
    omega (arith, none, length-append (handed left) (writer_pending left.writer))

pub returns-else-handed-ge-MOST_BYTES-clause-whole : goal.returns-else-handed-ge-MOST_BYTES-clause-whole
returns-else-handed-ge-MOST_BYTES-clause-whole g c first entries way =
    row_kept g.O.Outlet.told g.O.Outlet.failed first c.args.outlet.now entries c.args.rows.now way c.args.entry.now c.push.new.self c.in_ok-push.ensures
