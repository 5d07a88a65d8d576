-- Machines that are made one by one.
use Rattle.std.proofs.{Common.{◌≡◌, ◌+◌, ◌++◌, ◌∷◌, [], ℕ, List, map, arith}, lemmas.Grind.{common_steps}}
use Rattle.process_api.specs.Place.{numbers_to}

-- one more is what it should be, so all are
pub one_more : {A B : Type 0} (f : A → B) (g : ℕ → B) (xs ys : List A) (x : A) (n : ℕ)
    → ys ≡ xs ++ x ∷ [] → map f xs ≡ map g (numbers_to n) → f x ≡ g (n + 1)
    → map f ys ≡ map g (numbers_to (n + 1))
one_more f g xs ys x n more so_far new = grind (arith, common_steps)
