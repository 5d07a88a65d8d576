use Rattle.reporting.proofs.Words.{◌≡◌, ◌+◌, ◌*◌, ◌/◌, ◌%◌, sym, ap, ◌∙◌, arith, get_or, mod-add-div', opened, kept_at, pair_at, tally_at, counted, new_tally}
use Rattle.reporting.proofs.layer_pairs.tally_at.Goals as goal

pub returns-then-closed : goal.returns-then-closed
returns-then-closed c =
    let pairs = c.args.pairs.now in
    let n = pairs.processes in
    let row : c.args.place / c.processes.result ≡ c.args.place / n = ap (λ m. c.args.place / m) c.processes.ensures in
    let column : c.args.place % c.processes-2.result ≡ c.args.place % n = ap (λ m. c.args.place % m) c.processes-2.ensures in
    let place : c.args.place / n * n + c.args.place % n ≡ c.args.place = omega (arith, mod-add-div' c.args.place n) in
    let is : c.pair-pair.result ≡ pair_at pairs c.args.place =
    c.pair-pair.ensures (opened 0 new_tally) ∙ (λ i. get_or pairs.pairs.items (row i * n + column i) (opened 0 new_tally)) ∙ ap (pair_at pairs) place in
    c.tally.ensures ∙ c.close.ensures ∙ (λ i. kept_at counted (c.horizon.ensures i) (is i)) ∙ ap (λ b. tally_at pairs b c.args.place) (sym c.if-closed.true)
