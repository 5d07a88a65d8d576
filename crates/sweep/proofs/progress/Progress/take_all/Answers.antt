use Rattle.sweep.proofs.{Words.{rules, arith}, Reading.{if_err}, Advancing.{one_of}}
use Rattle.sweep.proofs.progress.Progress.take_all.Goals as goal

pub returns-in_err-take-clause-stops : goal.returns-in_err-take-clause-stops
returns-in_err-take-clause-stops g c =
    if_err c.from_residual.result _ c.in_err-take.field-0.0 (search rules) (λ sources start begin end few numbers way.
    c.in_err-take.ensures.stops sources start begin end (omega (arith, few, c.loop-each.invariant.number, c.loop-each-test.true))
    (one_of sources c.args.grid.now c.args.layout.now.groups _ c.args.numbers.now c.loop-each.each-index c.each-item.result _ c.loop-each-test.true c.each-item.is c.loop-each.invariant.number numbers)
    (c.loop-each.invariant.way sources start begin numbers way))

pub loop-each-preserved : goal.loop-each-preserved
loop-each-preserved g c = record {
  failures = search rules;
  run_low = search rules;
  number = search rules;
  way = λ sources start begin numbers way.
      c.in_ok-take.ensures.done sources start begin
      (one_of sources c.args.grid.now c.args.layout.now.groups _ c.args.numbers.now c.loop-each.each-index c.each-item.result _ c.loop-each-test.true c.each-item.is c.loop-each.invariant.number numbers)
      (c.loop-each.invariant.way sources start begin numbers way);
}
