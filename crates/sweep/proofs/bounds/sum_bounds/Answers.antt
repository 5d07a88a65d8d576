use Rattle.sweep.proofs.{Words.{◌≡◌, ◌+◌, take, sym, ap, ◌∙◌, subst, PairMeasures, trusts_of, AreBounds, bounds_plus, of_bound, IsPair, bound_after, bounds_of, DetectionBounds}, Bounding.{bound_more, bound_same}}
use Rattle.sweep.proofs.bounds.sum_bounds.Goals.{then-is_to_detect+then-is_pair, else-is_to_detect, else-is_to_detect-via-then-is_to_detect+else-is_pair, else-is_to_detect-via-else-is_to_detect}
use Rattle.sweep.proofs.bounds.sum_bounds.Goals as goal

pub loop-pair-preserved : goal.loop-pair-preserved
loop-pair-preserved c = λ are.
    let S = c.args.scenario.now in
    let of = trusts_of c.args.trusts.now in
    let pairs = c.args.pairs.now in
    let i = c.loop-pair.pair-index in
    let m : PairMeasures = c.pair-item.result in
    let b : DetectionBounds = c.loop-pair.bounds in
    let so_far = c.loop-pair.invariant are in
    let Holds : DetectionBounds → Type 0 = AreBounds (bounds_of S of (take (i + 1) pairs)) in
    elim c.if-is_to_detect.branch [
      | then-is_to_detect+then-is_pair w ↦
          let reckoned : w.bound_after-bound.result ≡ bound_after S (of m.observer m.subject) m.observer m.subject
          = w.bound_after-bound.ensures ∙ ap (λ n. bound_after S n m.observer m.subject) w.of.ensures in
          let now : c.if-is_to_detect.bounds ≡ bounds_plus b (of_bound (bound_after S (of m.observer m.subject) m.observer m.subject))
          = w.bounds-is ∙ w.plus-bounds.ensures ∙ ap (bounds_plus b) (w.of-then-is_pair.ensures ∙ ap of_bound reckoned) in
          subst Holds (sym now) (bound_more S of pairs i m c.loop-pair-test.true c.pair-item.is b so_far (sym c.is_to_detect.ensures ∙ w.if-is_to_detect.true))
      | else-is_to_detect w ↦ elim w.else-is_to_detect.branch [
        | else-is_to_detect-via-then-is_to_detect+else-is_pair v ↦
            absurd (v.is_pair.ensures.isnt v.if-is_pair.false (subst (λ (x : PairMeasures). IsPair S x.observer x.subject) (sym c.pair-item.is) (are i m c.loop-pair-test.true)))
        | else-is_to_detect-via-else-is_to_detect v ↦
            subst Holds (sym w.bounds-is) (bound_same S of pairs i m c.loop-pair-test.true c.pair-item.is b so_far (sym c.is_to_detect.ensures ∙ v.if-is_to_detect.false))
      ]
    ]
