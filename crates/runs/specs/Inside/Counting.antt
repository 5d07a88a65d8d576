-- Counts of trusts, with more.
use Rattle.std.specs.Prelude.{ℕ, ◌+◌, ◌==◌, if◌then◌else◌, List}
use Rattle.runs.specs.Finishing.{AreCounts}

-- whatever was counted before, so many times more the observer trusts each subject
abbrev pub HasCounted : (n observer : ℕ) (more : (p : ℕ) → ℕ) (old new : List ℕ) → Type 0
HasCounted n observer more old new = (of : (q p : ℕ) → ℕ) → AreCounts n of old
    → AreCounts n (λ q p. of q p + (if observer == q then more p else 0)) new
