use Rattle.sweep.proofs.{Words.{[], take, sym, ap, ◌∙◌, cons_option, filter_map, noted_round, greater, greatest}, Greatest.{greatest_both, greatest_one}, Single.{gathered_more}}
use Rattle.sweep.proofs.decisions.top_round.Goals as goal

pub loop-outcome-preserved : goal.loop-outcome-preserved
loop-outcome-preserved c =
    let os = c.args.outcomes.now in
    let i = c.loop-outcome.outcome-index in
    let o = c.outcome-item.result in
    let before = filter_map noted_round (take i os) in
    let more = gathered_more noted_round os i o c.loop-outcome-test.true c.outcome-item.is in
    c.greater-top.ensures
    ∙ ap (λ t. greater t c.noted_round.result) c.loop-outcome.invariant
    ∙ ap (greater (greatest before)) (c.noted_round.ensures ∙ sym (greatest_one (noted_round o)))
    ∙ sym (ap greatest more ∙ greatest_both before (cons_option (noted_round o) []))
