use Rattle.network.proofs.{Basics.{◌∙◌, ◌++◌, ◌∷◌, [], ap, if◌then◌else◌, filter, arith, holds}, Adding.{all_taken, kept_more}}
use Rattle.network.proofs.group.members_among.Goals as goal

pub loop-before-preserved : goal.loop-before-preserved
loop-before-preserved c =
    let q = c.after-p.result in
    let b = c.holds.result in
    c.in_ok-push_if.ensures
    ∙ (ap (λ xs. xs ++ (if b then q ∷ [] else [])) c.loop-before.invariant
    ∙ kept_more (holds c.args.group.now) c.args.n c.loop-before.before q b c.loop-before-test.true c.after-p.ensures c.holds.ensures)

pub returns : goal.returns
returns c =
    c.loop-before.invariant ∙ ap (filter (holds c.args.group.now)) (all_taken 1 c.args.n c.loop-before.before (omega arith))
