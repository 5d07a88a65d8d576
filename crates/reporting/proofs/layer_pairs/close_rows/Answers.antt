use Rattle.reporting.proofs.{Words.{◌≡◌, ap, ◌∙◌, ◌++◌, arith, closed_rows}, Closing.{metering_closed}}
use Rattle.reporting.proofs.layer_pairs.close_rows.Goals as goal

pub returns : goal.returns
returns c = λ S layer trace h.
    let all : c.loop-row.row ≡ c.args.pairs.now.processes = omega (arith, c.loop-row-test.false, c.loop-row.auto.row-end) in
    c.loop-row.invariant
    ∙ ap (λ n. c.args.rows.now.items ++ closed_rows c.args.pairs.now n) all
    ∙ ap (λ rows. c.args.rows.now.items ++ rows) (metering_closed S layer trace c.args.pairs.now h)
