-- Two lists in step.
use Rattle.sweep.proofs.Words.{◌≡◌, ℕ, zero, suc, ◌+◌, ◌≤◌, refl, take, List, [], ◌∷◌, ◌++◌, arith, ap, ◌∙◌, add-one, AllZip, range_with_len}

module _ {A B : Type 0} (R : A → B → Type 0) where
  pub zip_append : (xs : List A) (ys : List B) (us : List A) (vs : List B) → AllZip R xs ys → AllZip R us vs
      → AllZip R (xs ++ us) (ys ++ vs)
  zip_append [] [] us vs a b = b
  zip_append [] (y ∷ ys) us vs a b = absurd a
  zip_append (x ∷ xs) [] us vs a b = absurd a
  zip_append (x ∷ xs) (y ∷ ys) us vs a b = (a.0, zip_append xs ys us vs a.1 b)

  -- one more of both
  pub zip_push : (xs : List A) (ys : List B) (x : A) (y : B) → AllZip R xs ys → R x y
      → AllZip R (xs ++ x ∷ []) (ys ++ y ∷ [])
  zip_push xs ys x y z r = zip_append xs ys (x ∷ []) (y ∷ []) z (r, tt)

-- numbers that follow one another, with one more
range_push : (a n : ℕ) → range_with_len a (suc n) ≡ range_with_len a n ++ (a + n) ∷ []
range_push a zero = ap (λ m. m ∷ []) (omega arith)
range_push a (suc n) = ap (λ l. a ∷ l) (range_push (a + 1) n ∙ ap (λ m. range_with_len (a + 1) n ++ m ∷ []) (omega arith))

pub range_more : (a n : ℕ) → range_with_len a (n + 1) ≡ range_with_len a n ++ (a + n) ∷ []
range_more a n = ap (λ k. range_with_len a k) (add-one n) ∙ range_push a n

pub range_taken : (a n k : ℕ) → k ≤ n → take k (range_with_len a n) ≡ range_with_len a k
range_taken a n zero le = refl
range_taken a zero (suc k) le = absurd (omega arith)
range_taken a (suc n) (suc k) le = ap (λ l. a ∷ l) (range_taken (a + 1) n k (omega arith))
