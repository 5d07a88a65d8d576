use Rattle.sweep.proofs.{Words.{rules}, Advancing.{one_of}}
use Rattle.sweep.proofs.limits.Limits.add_all.Goals as goal

pub loop-each-preserved : goal.loop-each-preserved
loop-each-preserved g c = record {
  run_low = search rules;
  number = search rules;
  heard = λ sources groups start begin numbers way.
      c.add.ensures.heard sources groups start begin
      (one_of sources c.args.grid.now groups _ c.args.numbers.now c.loop-each.each-index c.each-item.result _ c.loop-each-test.true c.each-item.is c.loop-each.invariant.number numbers)
      (c.loop-each.invariant.heard sources groups start begin numbers way);
}
