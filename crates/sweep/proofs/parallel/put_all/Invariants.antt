use Rattle.sweep.proofs.Words.{◌≡◌, ◌<◌, vec_len, All, into_iter_items, with_answers}
use Rattle.sweep.proofs.parallel.put_all.Given as goal

abbrev pub invariant-loop-place : goal.invariant-loop-place
invariant-loop-place g l =
    let rest = into_iter_items l.place-iterator in
    record {
      long : vec_len l.places ≡ vec_len l.fn.places;
      left : All (λ answer. answer.0 < vec_len l.fn.places) rest;
      same : with_answers l.places.items rest ≡ with_answers l.fn.places.items l.fn.answers.items;
    }
