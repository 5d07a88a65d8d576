-- What a run leaves of its outlets and which line it tells, status by status, where it ended as `ended` says.
use Rattle.shell.proofs.Basics.{◌≡◌, ◌≢◌, ◌⊎◌, ◌≤◌, sym, subst, inl, ℕ, List, Option, Result, Ok, Err, IfErr, OnOk, arith, WroteNothing, End, Goes, HasStatus, IsWhy, LeftAt, MayHaveGone, Tells, Went, WentPart, begun, cut, untouched}
use Rattle.shell.proofs.Going.{tells_as}

-- ---- what a status says of the end

pub one_to_four : (end : End) (n : ℕ) → HasStatus end n → (1 ≤ n) × (n ≤ 4)
one_to_four untouched n is = omega arith
one_to_four _ n is = omega arith

module _ {O : Type 0} (told : O → Option (List ℕ)) (failed : O → ℕ) (old new : O) (IsWritten IsLeft : List ℕ → Type 0) (n : ℕ) where
  pub left_four : (end : End) → HasStatus end n → LeftAt told failed old new IsWritten IsLeft end → n ≡ 4 → WentPart told failed old new IsWritten
  left_four cut is left four = left
  left_four _ is left four = absurd (omega arith)

  pub left_three : (end : End) → HasStatus end n → LeftAt told failed old new IsWritten IsLeft end → n ≡ 3 → MayHaveGone told failed old new IsLeft
  left_three untouched is left three = inl left
  left_three begun is left three = left
  left_three cut is left three = absurd (omega arith)

  pub left_low : (end : End) → HasStatus end n → LeftAt told failed old new IsWritten IsLeft end → (n ≡ 1) ⊎ (n ≡ 2) → WroteNothing told failed old new
  left_low untouched is left low = left
  left_low _ is left low = absurd (omega arith)
