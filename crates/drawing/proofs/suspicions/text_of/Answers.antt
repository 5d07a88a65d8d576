use Rattle.drawing.proofs.{Words.{MatchResult-weaker, bars_in, has_row_in, group_of, group_bands_of, left_out}, Stretching.{stretches_are_bars}}
use Rattle.drawing.proofs.suspicions.text_of.Goals as goal

pub returns : goal.returns
unfolding group_of group_bands_of has_row_in left_out
returns c =
    let all = c.in_ok-rows.ensures.all in
    MatchResult-weaker c.picture_text.result c.picture_text.ensures
    (λ text e. record {
      bars = bars_in c.args.run.now;
      are_bars = λ layer q p. stretches_are_bars _ _ _;
      picture = rw (← all.top, ← all.left_out, ← all.bands, ← all.shapes) (e _ c.in_ok-push_left_out.ensures);
    })
    (λ error h. h)
