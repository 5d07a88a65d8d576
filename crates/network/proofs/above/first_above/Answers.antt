use Rattle.std.proofs.Common.{◌&&◌, ◌∙◌, nat_lt}
use Rattle.std.specs.FinSet as set
use Rattle.network.proofs.Firsts.{passed_next}
use Rattle.network.proofs.above.first_above.Goals as goal

pub loop-before-preserved : goal.loop-before-preserved
loop-before-preserved c =
    c.loop-before.invariant ∙ passed_next (λ p. nat_lt c.args.n p && set.contains c.args.members.now p) c.loop-before.before c.args.most c.is_above.result c.after-process.result c.loop-before-test.true c.after-process.ensures c.is_above.ensures c.if-is_above.false
