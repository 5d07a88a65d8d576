use Rattle.drawing.proofs.Words.{append_assoc, pair_of, pair_at}
use Rattle.drawing.proofs.groups.Run.push_row.Goals as goal

pub returns : goal.returns
unfolding pair_of pair_at
returns c =
    rw (
      c.in_ok-push_crash.ensures,
      c.in_ok-push_bars-2.ensures,
      c.in_ok-push_bars.ensures,
      c.in_ok-push_mark-2.ensures,
      c.in_ok-push_mark.ensures,
      c.in_ok-pair_name.ensures,
      c.life_line.ensures,
      c.shown-crash.ensures,
      c.row_end-end.ensures,
      c.crash.ensures.value,
      c.deref.ensures.value,
      c.requires.first,
      c.deref-2.ensures.value,
      c.requires.second,
      c.first_top.ensures.value,
      c.share.ensures.value,
    ) (simp append_assoc)
