use Rattle.freshness_detector.proofs.{Words.{◌≡◌, ℕ, ◌+◌, Bool, sym, ap, ◌∙◌, cond-true, cond-false, insert_all-next, is_stale_at}, detector.FreshnessDetector.suspects_at.Goals.{then-is_stale, else-is_stale}}
use Rattle.std.specs.FinSet as set
use Rattle.freshness_detector.proofs.detector.FreshnessDetector.suspects_at.Goals as goal

pub loop-before-preserved : goal.loop-before-preserved
loop-before-preserved c =
    let test : ℕ → Bool = is_stale_at c.args.self.now c.args.point in
    let n : ℕ = c.loop-before.before in
    let is : c.after-q.result ≡ n + 1 = c.after-q.ensures in
    let tested : c.is_stale.result ≡ test (n + 1) = c.is_stale.ensures ∙ ap test is in
    elim c.if-is_stale.branch [
      | then-is_stale w ↦ w.suspects-is ∙ (w.insert.ensures ∙ ((λ k. set.insert (c.loop-before.invariant k) (is k)) ∙ sym (insert_all-next set.empty test n ∙ cond-true _ _ _ (sym tested ∙ w.if-is_stale.true))))
      | else-is_stale w ↦ w.suspects-is ∙ (c.loop-before.invariant ∙ sym (insert_all-next set.empty test n ∙ cond-false _ _ _ (sym tested ∙ w.if-is_stale.false)))
    ]
