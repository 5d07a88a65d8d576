use Rattle.sweep.proofs.Words.{◌≡◌, ◌<◌, vec_len, All, into_iter_items, with_columns}
use Rattle.sweep.proofs.parallel.put_columns.Given as goal

abbrev pub invariant-loop-answers : goal.invariant-loop-answers
invariant-loop-answers g l =
    let rest = into_iter_items l.answers-iterator in
    record {
      long : vec_len l.places ≡ vec_len l.fn.places;
      left : All (λ column. All (λ answer. answer.0 < vec_len l.fn.places) column.items) rest;
      same : with_columns l.places.items rest ≡ with_columns l.fn.places.items l.fn.columns.items;
    }
