use Rattle.network.proofs.{Basics.{ap, length-append, arith, rules, drawn_of, of_burst, of_each, LinkOutage}, Adding.{in_turn}}
use Rattle.network.proofs.drawing.draw.Goals as goal

pub returns-in_err-draw_all-clause-full : goal.returns-in_err-draw_all-clause-full
unfolding drawn_of
returns-in_err-draw_all-clause-full c = λ is.
    grind (arith, length-append {A = LinkOutage}, c.in_err-draw_all.ensures.full (search rules))

pub returns-in_err-draw_all-2-clause-full : goal.returns-in_err-draw_all-2-clause-full
unfolding drawn_of
returns-in_err-draw_all-2-clause-full c = λ is.
    grind (arith, length-append {A = LinkOutage}, c.in_err-draw_all-2.ensures.full (search rules))

pub returns-in_err-draw_all-3-clause-full : goal.returns-in_err-draw_all-3-clause-full
unfolding drawn_of
returns-in_err-draw_all-3-clause-full c = λ is.
    grind (arith, length-append {A = LinkOutage}, c.in_err-draw_all-3.ensures.full (search rules))

pub returns-in_err-draw_all-4-clause-full : goal.returns-in_err-draw_all-4-clause-full
unfolding drawn_of
returns-in_err-draw_all-4-clause-full c = λ is.
    grind (arith, length-append {A = LinkOutage}, c.in_err-draw_all-4.ensures.full (search rules))

pub returns-clause-ok : goal.returns-clause-ok
unfolding drawn_of
returns-clause-ok c =
    let bursts = of_each (of_burst c.args.processes c.args.horizon c.args.seed) in
    let one = in_turn c.in_ok-draw_all.ensures.ok c.new-drawn.ensures (ap bursts c.deref.ensures.value) in
    cc (
      c.into_outages.ensures.all,
      one,
      c.in_ok-draw_all-2.ensures.ok,
      c.in_ok-draw_all-3.ensures.ok,
      c.in_ok-draw_all-4.ensures.ok,
    )
