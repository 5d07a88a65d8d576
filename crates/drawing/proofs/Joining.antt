-- Lists of shapes that grow piece by piece.
use Rattle.drawing.proofs.Words.{◌≡◌, ℕ, suc, add-one, ◌+◌, List, ◌++◌, append-nil, flat_map, flat_map-append, numbers_to}

module _ {X : Type 0} where
  pub numbers_more : (f : ℕ → List X) (n : ℕ) → flat_map f (numbers_to (n + 1)) ≡ flat_map f (numbers_to n) ++ f (suc n)
  numbers_more f n = rw (add-one n) (simp (flat_map-append, append-nil))
