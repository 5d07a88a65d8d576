use Rattle.sweep.proofs.Words.{arith}
use Rattle.sweep.proofs.point_sums.PointSums.new.Goals as goal

pub returns : goal.returns
returns c group = record {
  on_first = c.new.ensures group 1 c.args.first;
  on_second = c.new-2.ensures group 2 c.args.first;
  first_high = omega arith;
  next = omega (arith, c.from.ensures);
}
