use Rattle.sweep.proofs.{Words.{◌^◌, ◌<◌, length, ap, ◌∙◌, subst, arith, decisions_plus, of_outcome, AreDecisionsWithin}, Single.{outcome_added, outcome_within}}
use Rattle.sweep.proofs.decisions.sum_decisions.Goals as goal

pub loop-outcome-preserved : goal.loop-outcome-preserved
loop-outcome-preserved c =
    let os = c.args.outcomes.now in
    let i = c.loop-outcome.outcome-index in
    let o = c.outcome-item.result in
    let s = c.loop-outcome.sums in
    let short : length os < 2 ^ 63 = omega arith in
    let one : AreDecisionsWithin (2 ^ 64) (of_outcome o) = subst (AreDecisionsWithin (2 ^ 64)) c.of_outcome.ensures.value c.of_outcome.ensures.within in
    let sum = c.plus-sums.ensures ∙ ap (decisions_plus s) c.of_outcome.ensures.value in
    rw sum (record {
      sums = outcome_added os i o s c.loop-outcome-test.true short c.outcome-item.is c.loop-outcome.invariant.within one c.loop-outcome.invariant.sums;
      within = outcome_within os i o s c.loop-outcome-test.true short c.outcome-item.is c.loop-outcome.invariant.within one;
    })
