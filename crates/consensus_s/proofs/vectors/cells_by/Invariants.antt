use Rattle.consensus_s.proofs.Words.{◌≡◌, ℕ, Option, cells_of}
use Rattle.consensus_s.proofs.vectors.cells_by.Given as goal

abbrev pub invariant-loop-before : goal.invariant-loop-before
invariant-loop-before g l =
    goal.F-IsAlwaysCallable g l.cell
    × ((value_of : ℕ → Option ℕ) → ((k : ℕ) (value : Option ℕ) → goal.F-post g l.cell k value → value ≡ value_of k) → l.cells.items ≡ cells_of l.before value_of)
