use Rattle.scenario.proofs.{Words.{◌∙◌, ◌==◌, ◌+◌, sym, not, is_below, link_in}, Steps.{skip}}
use Rattle.scenario.proofs.below.first_from.Goals as goal

pub loop-to-preserved : goal.loop-to-preserved
loop-to-preserved c =
    c.loop-to.invariant ∙ skip (is_below (link_in c.args.n c.args.links.now) c.args.lookahead) (λ to. (c.args.from, to)) (λ to. not (to == c.args.from)) c.loop-to.to (c.args.n + 1) c.loop-to-test.true (sym c.is_low.ensures.test ∙ c.if-is_low.false)
