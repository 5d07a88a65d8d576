use Rattle.process_api.proofs.{Basics.{◌≡◌, ◌∷◌, [], ◌++◌, ℕ, ◌+◌, Bool, not, nat_eq, ap, sym, ◌∙◌, Action, Send}, Numbering.{appended-passes, appended-fails}, action.send_to_others.Goals.{then-ne+in_ok-copy+in_ok-send_to, else-ne}}
use Rattle.process_api.proofs.action.send_to_others.Goals as goal

pub loop-before-preserved : goal.loop-before-preserved
loop-before-preserved c =
    let n : ℕ = c.loop-before.before in
    let is : c.after-q.result ≡ n + 1 = c.after-q.ensures in
    let letter : ℕ → Action = λ q. Send q c.args.payload.now in
    let other : ℕ → Bool = λ q. not (nat_eq q c.args.own) in
    let tested : c.ne.result ≡ other (n + 1) = c.ne.ensures ∙ ap other is in
    elim c.if-ne.branch [
      | then-ne+in_ok-copy+in_ok-send_to w ↦
          ap (λ v. v.items) w.out-is ∙ (w.in_ok-send_to.ensures.ok
          ∙ ((λ i. c.loop-before.invariant i ++ Send (is i) (w.in_ok-copy.ensures i) ∷ [])
          ∙ appended-passes c.args.out.now.items letter other n (sym tested ∙ w.if-ne.true)))
      | else-ne w ↦
          ap (λ v. v.items) w.out-is ∙ (c.loop-before.invariant
          ∙ appended-fails c.args.out.now.items letter other n (sym tested ∙ w.if-ne.false))
    ]
