use Rattle.sweep.proofs.Words.{arith, YieldsList-from_range, items_from_collect}
use Rattle.sweep.proofs.layout.all_places.Goals as goal

pub returns : goal.returns
returns c = items_from_collect _ c.collect.ensures.ran (YieldsList-from_range 0 c.args.count c.args.count (cc) (omega arith))
