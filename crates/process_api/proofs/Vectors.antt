-- Vectors, cell by cell, and without the empty cells at their ends.
use Rattle.process_api.proofs.Basics.{◌≡◌, ◌⊎◌, inl, inr, ℕ, zero, suc, ◌+◌, ◌-◌, ◌<◌, ◌≤◌, refl, sym, ap, ◌∙◌, subst, Bool, true, false, not, ◌&&◌, true≢false, Option, None, List, [], ◌∷◌, ◌++◌, length, get_or, replicate, arith, and-false}
use Rattle.std.specs.Cmp.Lexicographic.{pointwise}
use Rattle.std.proofs.lemmas.List.{append_assoc, length-append, length-replicate}

module _ {K : Type 0} (E : K → K → Bool) (d : K) where
  pub unlike : (xs ys : List K) (i : ℕ) → i < length xs → E (get_or xs i d) (get_or ys i d) ≡ false → pointwise E xs ys ≡ false
  unlike [] ys i within h = absurd (omega (arith, within))
  unlike (x ∷ xs) [] i within h = refl
  unlike (x ∷ xs) (y ∷ ys) zero within h = ap (λ b. b && pointwise E xs ys) h
  unlike (x ∷ xs) (y ∷ ys) (suc i) within h = ap (λ b. E x y && b) (unlike xs ys i (omega (arith, within)) h) ∙ and-false (E x y)

  pub alike : (xs ys : List K) → length xs ≡ length ys → ((i : ℕ) → i < length xs → E (get_or xs i d) (get_or ys i d) ≡ true) → pointwise E xs ys ≡ true
  alike [] [] same each = refl
  alike [] (y ∷ ys) same each = absurd (omega (arith, same))
  alike (x ∷ xs) [] same each = absurd (omega (arith, same))
  alike (x ∷ xs) (y ∷ ys) same each = λ k. each 0 (omega arith) k && alike xs ys (omega (arith, same)) (λ i within. each (suc i) (omega (arith, within))) k

pub refuted : (b : Bool) → true ≡ not b → b ≡ false
refuted true e = absurd (true≢false e)
refuted false e = refl

last_of : (j n : ℕ) → j < n + 1 → (j ≡ n) ⊎ (j < n)
last_of j n h = grind arith

pub one_more : (P : ℕ → Type 0) (n : ℕ) → ((j : ℕ) → j < n → P j) → P n → (j : ℕ) → j < n + 1 → P j
one_more P n all here j below = go (last_of j n below)
  where
    go : (j ≡ n) ⊎ (j < n) → P j
    go (inl e) = subst P (sym e) here
    go (inr h) = all j h

module _ {X : Type 0} where
  pub wide : (xs : List (Option X)) (n : ℕ) → length xs ≤ n → length (xs ++ replicate (n - length xs) None) ≡ n
  wide xs n few =
      let left : length (replicate {A = Option X} (n - length xs) None) ≡ n - length xs = length-replicate (n - length xs) None in
      omega (arith, length-append xs (replicate (n - length xs) None), left, few)

  pub one_fewer : (xs ys : List (Option X)) → xs ≡ ys ++ None ∷ [] → length xs ≡ length ys + 1
  one_fewer xs ys is = ap length is ∙ length-append ys (None ∷ [])

  -- one empty cell fewer at the end
  pub trimmed : (xs ys : List (Option X)) (n : ℕ) → xs ≡ ys ++ None ∷ [] → length xs ≤ n → ys ++ replicate (n - length ys) None ≡ xs ++ replicate (n - length xs) None
  trimmed xs ys n is few =
      let left : n - length ys ≡ suc (n - length xs) = omega (arith, one_fewer xs ys is, few) in
      ap (λ k. ys ++ replicate k None) left ∙ (sym (append_assoc ys (None ∷ []) (replicate (n - length xs) None)) ∙ ap (λ zs. zs ++ replicate (n - length xs) None) (sym is))
