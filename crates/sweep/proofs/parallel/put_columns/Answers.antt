use Rattle.sweep.proofs.{Words.{◌≡◌, ◌<◌, ◌∷◌, length, sym, ap, ◌∙◌, vec_len, All, into_iter_items, All-rest, with_columns}, Placed.{length_answers}}
use Rattle.sweep.proofs.parallel.put_columns.Goals as goal

pub loop-answers-preserved : goal.loop-answers-preserved
loop-answers-preserved g c =
    let rest = into_iter_items c.loop-answers.answers-iterator in
    let left = into_iter_items c.next.new.self in
    let places = c.loop-answers.places.items in
    let answers = c.in-Some.answers in
    let e : rest ≡ answers ∷ left = c.in-Some.ensures.steps.0 in
    record {
      long = c.put_all.new.places.ok.0 ∙ (ap length c.put_all.ensures
          ∙ (length_answers places answers.items ∙ (sym c.loop-answers.places.ok.0 ∙ c.loop-answers.invariant.long)));
      left = All-rest (λ column. All (λ answer. answer.0 < vec_len c.args.places.now) column.items) answers left rest e
          c.loop-answers.invariant.left;
      same = ap (λ now. with_columns now left) c.put_all.ensures
          ∙ (ap (λ columns. with_columns places columns) (sym e) ∙ c.loop-answers.invariant.same);
    }
