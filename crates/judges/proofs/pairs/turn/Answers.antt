use Rattle.judges.proofs.{Words.{rules, sym, ◌+◌, ◌-◌, ◌*◌, ◌<◌, ap, ◌∙◌, arith, length, mul-add-lt, turned}, Entering.{one_turned}}
use Rattle.judges.proofs.pairs.turn.Goals as goal

pub offset_bounds-pairs-row : goal.offset_bounds-pairs-row
offset_bounds-pairs-row g c =
    let l = mul-add-lt (c.from-row.result - 1) c.args.n (c.from-column.result - 1) c.args.n c.if-row-n.true c.if-column-n.true in
    let inside : (c.from-row.result - 1) * c.args.n + (c.from-column.result - 1) < length c.args.pairs.now = omega (arith, l, c.requires.square) in
    search rules

pub returns-then-column-n : goal.returns-then-column-n
returns-then-column-n g c =
    one_turned g.K.Gauge.passed c.args.n c.args.observer c.args.subject c.args.tick c.args.suspected c.args.pairs.now _ c.index-pairs-row.result c.turn.new.self c.requires.square
    (omega (arith, c.number.ensures.low, c.number.ensures.value)) (omega (arith, c.number.ensures.low, c.number.ensures.value, c.from-row.ensures, c.if-row-n.true))
    (omega (arith, c.number-2.ensures.low, c.number-2.ensures.value)) (omega (arith, c.number-2.ensures.low, c.number-2.ensures.value, c.from-column.ensures, c.if-column-n.true))
    (ap (λ o. (o - 1) * c.args.n + (c.from-column.result - 1)) (c.from-row.ensures ∙ c.number.ensures.value) ∙ ap (λ w. (c.args.observer - 1) * c.args.n + (w - 1)) (c.from-column.ensures ∙ c.number-2.ensures.value))
    c.index-pairs-row.is (c.turn.ensures ∙ ap (turned g.K.Gauge.passed c.args.tick c.args.suspected) (sym c.index-pairs-row.is))
