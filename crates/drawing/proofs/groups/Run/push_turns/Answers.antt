use Rattle.drawing.proofs.{Words.{◌≡◌, ◌≢◌, ◌+◌, refl, arith, append-nil, append_assoc, flat_map-append}, Counting.{others_itself, others_other}, groups.Run.push_turns.Goals.{then-ne+in_ok-push_pair_turns, else-ne}}
use Rattle.drawing.proofs.groups.Run.push_turns.Goals as goal

pub loop-before-preserved : goal.loop-before-preserved
loop-before-preserved c =
    let n = c.loop-before.before in
    let q = c.args.observer in
    elim c.if-ne.branch [
      | then-ne+in_ok-push_pair_turns w ↦
          let other : n + 1 ≢ q = grind (arith, w.if-ne.true, c.ne.ensures, c.after-subject.ensures) in
          rw (w.shapes-is, w.in_ok-push_pair_turns.ensures, c.loop-before.invariant, c.after-subject.ensures, others_other n q other) (simp (flat_map-append, append-nil, append_assoc))
      | else-ne w ↦
          let same : n + 1 ≡ q = grind (arith, w.if-ne.false, c.ne.ensures, c.after-subject.ensures) in
          rw (w.shapes-is, c.loop-before.invariant, others_itself n q same) refl
    ]
