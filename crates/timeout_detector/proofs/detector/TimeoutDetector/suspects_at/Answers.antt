use Rattle.std.proofs.{Common.{◌≡◌, ℕ, ◌+◌, Bool, sym, ap, ◌∙◌}, lemmas.Bool.{cond-true, cond-false}}
use Rattle.std.specs.FinSet as set
use Rattle.process_api.proofs.Contains.{insert_all-next, without_after_insert}
use Rattle.timeout_detector.specs.Inside.View.{is_overdue}
use Rattle.timeout_detector.proofs.detector.TimeoutDetector.suspects_at.Goals as goal
use Rattle.timeout_detector.proofs.detector.TimeoutDetector.suspects_at.Goals.{then-is_overdue, else-is_overdue}

pub loop-before-preserved : goal.loop-before-preserved
loop-before-preserved c =
    let d = c.args.self.now in
    let test : ℕ → Bool = is_overdue d c.args.now in
    let n : ℕ = c.loop-before.before in
    let is : c.after-q.result ≡ n + 1 = c.after-q.ensures in
    let i = c.loop-before.invariant in
    let tested : c.is_overdue.result ≡ test (n + 1) = c.is_overdue.ensures.value ∙ ap test is in
    elim c.if-is_overdue.branch [
      | then-is_overdue w ↦ record {
        value = w.suspects-is ∙ (w.insert.ensures ∙ ((λ k. set.insert (i.value k) (is k)) ∙ sym (insert_all-next d.suspects test n ∙ cond-true _ _ _ (sym tested ∙ w.if-is_overdue.true))));
        not_itself = without_after_insert c.loop-before.suspects _ c.after-q.result d.opening.own (w.suspects-is ∙ w.insert.ensures) (c.is_overdue.ensures.other w.if-is_overdue.true) i.not_itself;
      }
      | else-is_overdue w ↦ record {
        value = w.suspects-is ∙ (i.value ∙ sym (insert_all-next d.suspects test n ∙ cond-false _ _ _ (sym tested ∙ w.if-is_overdue.false)));
        not_itself = ap (λ m. set.contains m d.opening.own) w.suspects-is ∙ i.not_itself;
      }
    ]
