use Rattle.std.proofs.Common.{◌≡◌, ◌≢◌, ◌≤◌, ◌+◌, ◌%◌, ◌^◌, ℕ, slice_index_or}
use Rattle.streams.specs.Fate.{none, IsBefore, IsRun}
use Rattle.streams.proofs.kept.draw_run.Given as goal

abbrev pub invariant-loop-row : goal.invariant-loop-row
invariant-loop-row l =
    ((k : ℕ) → k % l.fn.places ≢ l.fn.place → slice_index_or l.pairs k none ≡ slice_index_or l.fn.pairs k none)
    × ((seed from begin : ℕ) → 1 ≤ begin → IsBefore seed from l.fn.place begin l.fn.generator
    → (begin + l.row ≤ 2 ^ 64 → IsBefore seed from l.fn.place (begin + l.row) l.generator)
    × IsRun l.row seed from l.fn.place begin l.fn.places l.pairs)
