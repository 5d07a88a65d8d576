use Rattle.drawing.proofs.{Words.{◌∙◌, ◌++◌, sym, ap, arith, eqb-false, bands, pair_of}, RowShapes.{shown_same, with_row, without_row}}
use Rattle.drawing.proofs.groups.Run.push_pair.Goals as goal

pub returns-then-not-is_shown : goal.returns-then-not-is_shown
returns-then-not-is_shown c =
    without_row c.args.self.now c.args.observer c.args.before _ c.after-subject.ensures c.args.rows.now c.requires.rows (eqb-false _ _ (sym c.if-eq.ensures))
    (sym (shown_same c.args.self.now _ _ _ _ c.in_ok-first.ensures c.in_ok-second.ensures) ∙ sym c.is_shown.ensures ∙ c.if-not-is_shown.true)

pub returns : goal.returns
unfolding pair_of
returns c =
    let ticks = c.args.self.now.ticks in
    let old = c.args.rows.now in
    with_row c.args.self.now c.args.observer c.args.before _ c.after-subject.ensures old c.requires.rows (eqb-false _ _ (sym c.if-eq.ensures))
    (sym (shown_same c.args.self.now _ _ _ _ c.in_ok-first.ensures c.in_ok-second.ensures) ∙ sym c.is_shown.ensures ∙ c.if-not-is_shown.false)
    _ c.in_ok-push_row.ensures (c.in_ok-push_bands.ensures ∙ ap (λ o. old.bands.items ++ bands ticks.from ticks.until old.top o) c.outages-outages.ensures.value) (omega arith) (omega arith)
