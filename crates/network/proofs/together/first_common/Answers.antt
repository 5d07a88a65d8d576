use Rattle.network.proofs.{Basics.{◌&&◌, ◌∙◌, holds}, Firsts.{passed_next}}
use Rattle.network.proofs.together.first_common.Goals as goal

pub loop-before-preserved : goal.loop-before-preserved
loop-before-preserved c =
    c.loop-before.invariant ∙ passed_next (λ p. holds c.args.one.now p && holds c.args.other.now p) c.loop-before.before c.args.most c.is_common.result c.after-process.result c.loop-before-test.true c.after-process.ensures c.is_common.ensures c.if-is_common.false
