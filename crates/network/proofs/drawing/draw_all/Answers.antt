use Rattle.network.proofs.{Basics.{ℕ, ◌∙◌, ap, sym, ◌++◌, List, arith, rules, flat_map, enumerate_from, take_all, length-enumerate_from, most_outages, LinkOutage}, Adding.{adds_more, full_more, numbered_at}}
use Rattle.network.proofs.drawing.draw_all.Goals as goal

pub loop-i-preserved : goal.loop-i-preserved
loop-i-preserved g c =
    let xs = c.args.tables.now in
    let i = c.loop-i.i in
    let x = c.index-tables-i.result in
    let f : ℕ × g.row.T.Denot → List LinkOutage = λ numbered. g.T.DrawsOutages.outages c.args.course.processes c.args.course.horizon c.args.course.seed numbered.0 numbered.1 in
    adds_more f c.args.drawn.now c.loop-i.drawn c.draw.new.drawn (enumerate_from 0 xs) i (i, x)
    (omega (arith, length-enumerate_from 0 xs, c.loop-i-test.true)) (numbered_at xs i x c.loop-i-test.true (sym c.index-tables-i.is)) c.loop-i.invariant c.in_ok-draw.ensures.ok

pub returns-in_err-draw-clause-full : goal.returns-in_err-draw-clause-full
returns-in_err-draw-clause-full g c = λ is.
    let xs = c.args.tables.now in
    let i = c.loop-i.i in
    let x = c.index-tables-i.result in
    let f : ℕ × g.row.T.Denot → List LinkOutage = λ numbered. g.T.DrawsOutages.outages c.args.course.processes c.args.course.horizon c.args.course.seed numbered.0 numbered.1 in
    full_more f most_outages c.args.drawn.now c.loop-i.drawn (enumerate_from 0 xs) i (i, x)
    (omega (arith, length-enumerate_from 0 xs, c.loop-i-test.true)) (numbered_at xs i x c.loop-i-test.true (sym c.index-tables-i.is)) c.loop-i.invariant (c.in_err-draw.ensures.full (search rules))

pub returns-clause-ok : goal.returns-clause-ok
returns-clause-ok g c =
    let xs = c.args.tables.now in
    let f : ℕ × g.row.T.Denot → List LinkOutage = λ numbered. g.T.DrawsOutages.outages c.args.course.processes c.args.course.horizon c.args.course.seed numbered.0 numbered.1 in
    c.loop-i.invariant
    ∙ ap (λ ys. c.args.drawn.now ++ flat_map f ys) (take_all c.loop-i.i (enumerate_from 0 xs) (omega (arith, length-enumerate_from 0 xs, c.loop-i-test.false)))
