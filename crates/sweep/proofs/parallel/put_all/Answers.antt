use Rattle.sweep.proofs.Words.{◌≡◌, ◌<◌, ◌∷◌, sym, ap, ◌∙◌, vec_len, into_iter_items, All-rest, with_answers}
use Rattle.sweep.proofs.parallel.put_all.Goals as goal

pub loop-place-preserved-in-Some : goal.loop-place-preserved-in-Some
loop-place-preserved-in-Some g c =
    let rest = into_iter_items c.loop-place.place-iterator in
    let left = into_iter_items c.next.new.self in
    let e : rest ≡ (c.in-Some.place, c.in-Some.answer) ∷ left = c.in-Some.ensures.steps.0 in
    record {
      long = c.loop-place.invariant.long;
      left = All-rest (λ answer. answer.0 < vec_len c.args.places.now) (c.in-Some.place, c.in-Some.answer) left rest e
          c.loop-place.invariant.left;
      same = ap (λ answers. with_answers c.loop-place.places.items answers) (sym e) ∙ c.loop-place.invariant.same;
    }

pub loop-place-preserved : goal.loop-place-preserved
loop-place-preserved g c =
    let rest = into_iter_items c.loop-place.place-iterator in
    let left = into_iter_items c.next.new.self in
    let e : rest ≡ (c.in-Some.place, c.in-Some.answer) ∷ left = c.in-Some.ensures.steps.0 in
    record {
      long = c.loop-place.invariant.long;
      left = All-rest (λ answer. answer.0 < vec_len c.args.places.now) (c.in-Some.place, c.in-Some.answer) left rest e
          c.loop-place.invariant.left;
      same = ap (λ answers. with_answers c.loop-place.places.items answers) (sym e) ∙ c.loop-place.invariant.same;
    }
