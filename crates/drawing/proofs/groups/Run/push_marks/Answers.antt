use Rattle.drawing.proofs.Words.{append_assoc, marks_in, turns_in, mark_shapes}
use Rattle.drawing.proofs.groups.Run.push_marks.Goals as goal

pub returns : goal.returns
unfolding marks_in mark_shapes turns_in
returns c =
    rw (c.in_ok-push_turns.ensures, c.in_ok-push_value.ensures, c.shown-tick.ensures, c.requires) (simp append_assoc)
