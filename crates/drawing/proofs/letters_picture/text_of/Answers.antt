use Rattle.drawing.proofs.{Words.{◌≡◌, ◌∙◌, ap, sym, subst, append_assoc, MatchResult-weaker, Tells, placeless, own_of, turn_bars, line_bands_in, marks_in, lanes_bottom, letters_shapes}, Framing.{tells_on}, Stretching.{stretches_are_bars}}
use Rattle.drawing.proofs.letters_picture.text_of.Goals as goal

pub returns : goal.returns
unfolding letters_shapes own_of line_bands_in marks_in placeless
returns c =
    let run = c.args.run.now in
    let marks : placeless c.push_all_marks.new.shapes.items
    ≡ letters_shapes run.scenario.now run.trace.now run.ticks.from run.ticks.until (turn_bars run) c.args.of.now c.args.letters.now =
    rw (c.in_ok-push_all_marks.ensures, c.in_ok-push_arrows.ensures, c.in_ok-push_lines.ensures, c.new-shapes.ensures.items) (simp append_assoc)
    in
    MatchResult-weaker c.picture_text.result c.picture_text.ensures
    (λ text e. record {
      bars = turn_bars run;
      are_bars = λ q p. stretches_are_bars _ _ _;
      picture =
          rw (← (c.lanes_bottom-bottom.ensures.value ∙ ap lanes_bottom c.processes.ensures.value), ← c.count_others-others.ensures, ← c.in_ok-bands.ensures, ← marks)
          (e _ (subst (Tells _) (sym c.in_ok-append.ensures) (tells_on _ _ _ c.in_ok-push_left_out.ensures)));
    })
    (λ error h. h)
