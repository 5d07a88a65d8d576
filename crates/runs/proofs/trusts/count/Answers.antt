use Rattle.runs.proofs.{Words.{◌≡◌, ◌-◌, ◌+◌, ◌*◌, ◌∙◌, min, get_or, ap, arith, rules, most_trusts}, Trusting.{one_counted}}
use Rattle.runs.proofs.trusts.count.Goals as goal

pub returns-then-column-n : goal.returns-then-column-n
returns-then-column-n c = λ of are.
    let place = (c.from-row.result - 1) * c.args.n + (c.from-column.result - 1) in
    let was = get_or c.args.counts.now place 0 in
    let now : c.saturating_add.result ≡ min (was + 1) most_trusts = search rules in
    one_counted c.args.n c.args.observer c.args.subject of c.args.counts.now are place was c.saturating_add.result
    (omega (arith, c.number.ensures.low, c.number.ensures.value)) (omega (arith, c.number.ensures.low, c.number.ensures.value, c.from-row.ensures, c.if-row-n.true))
    (omega (arith, c.number-2.ensures.low, c.number-2.ensures.value)) (omega (arith, c.number-2.ensures.low, c.number-2.ensures.value, c.from-column.ensures, c.if-column-n.true))
    (ap (λ o. (o - 1) * c.args.n + (c.from-column.result - 1)) (c.from-row.ensures ∙ c.number.ensures.value) ∙ ap (λ w. (c.args.observer - 1) * c.args.n + (w - 1)) (c.from-column.ensures ∙ c.number-2.ensures.value))
    (λ i. was) now
