use Rattle.judges.proofs.{Words.{refl, sym, subst, arith, AreEnds}, Entering.{pairs_opened}}
use Rattle.judges.proofs.pairs.Pairs.open.Goals as goal

pub returns : goal.returns
returns g c =
    pairs_opened g.K.Gauge.passed c.args.scenario.now c.args.layer c.args.kept c.deref.result.now (subst (AreEnds c.args.scenario.now) (sym c.deref.ensures.value) c.in_ok-ends.ensures.value) _ refl
    (omega (arith, c.len.ensures, c.deref.ensures.len)) c.horizon.ensures.value (omega (arith, c.horizon.ensures.ranges.horizon_low)) c.in_ok-pairs.ensures.each
