use Rattle.sweep.proofs.Words.{◌≡◌, ◌<◌, ◌+◌, ℕ, vec_len, length, slice_index_or, FnReturns, into_iter_items, ArePlaces}
use Rattle.sweep.proofs.parallel.filled.Given as goal

abbrev pub invariant-loop-place : goal.invariant-loop-place
invariant-loop-place g l =
    let rest = into_iter_items l.place-iterator in
    record {
      number_is : l.number ≡ l.fn.first + vec_len l.answers;
      all : vec_len l.answers + length rest ≡ vec_len l.fn.places;
      left : ArePlaces g.F.Fn l.fn.job l.number rest;
      each : (i : ℕ) (d : _) → i < vec_len l.answers
          → FnReturns g.F.Fn l.fn.job (l.fn.first + i, tt) (slice_index_or l.answers.items i d);
    }
