-- Lists over processes 1 to n, one process more.
use Rattle.promised.proofs.Words.{◌≡◌, ◌∙◌, ap, append-nil, ℕ, zero, suc, ◌+◌, Bool, true, false, cond, List, [], ◌∷◌, ◌++◌, filter, map, flat_map, arith, add-one, range_with_len}
use Rattle.std.proofs.lemmas.{Grind.{flat_map-append}, List.{map-append, Elements.{filter-append}}}

range_last : (a n j : ℕ) → a + n ≡ j → range_with_len a (suc n) ≡ range_with_len a n ++ j ∷ []
range_last a zero j e = ap (λ i. i ∷ []) (omega (arith, e))
range_last a (suc n) j e = ap (λ l. a ∷ l) (range_last (a + 1) n j (omega (arith, e)))

range_more : (k : ℕ) → range_with_len 1 (k + 1) ≡ range_with_len 1 k ++ (k + 1) ∷ []
range_more k = ap (range_with_len 1) (add-one k) ∙ range_last 1 k (k + 1) (omega arith)

module _ {X : Type 0} (p : ℕ → Bool) (f : ℕ → X) (k : ℕ) where
  more : map f (filter p (range_with_len 1 (k + 1)))
      ≡ map f (filter p (range_with_len 1 k)) ++ map f (cond (p (k + 1)) ((k + 1) ∷ []) [])
  more =
      ap (λ l. map f (filter p l)) (range_more k)
      ∙ ap (map f) (filter-append p (range_with_len 1 k) ((k + 1) ∷ []))
      ∙ map-append f (filter p (range_with_len 1 k)) (cond (p (k + 1)) ((k + 1) ∷ []) [])

  pub chosen_more : p (k + 1) ≡ true
      → map f (filter p (range_with_len 1 (k + 1))) ≡ map f (filter p (range_with_len 1 k)) ++ f (k + 1) ∷ []
  chosen_more is = more ∙ ap (λ b. map f (filter p (range_with_len 1 k)) ++ map f (cond b ((k + 1) ∷ []) [])) is

  pub passed_more : p (k + 1) ≡ false
      → map f (filter p (range_with_len 1 (k + 1))) ≡ map f (filter p (range_with_len 1 k))
  passed_more is =
      more ∙ ap (λ b. map f (filter p (range_with_len 1 k)) ++ map f (cond b ((k + 1) ∷ []) [])) is
      ∙ append-nil (map f (filter p (range_with_len 1 k)))

pub each_more : {X : Type 0} (f : ℕ → List X) (k : ℕ)
    → flat_map f (range_with_len 1 (k + 1)) ≡ flat_map f (range_with_len 1 k) ++ f (k + 1)
each_more f k =
    ap (flat_map f) (range_more k) ∙ flat_map-append f (range_with_len 1 k) ((k + 1) ∷ [])
    ∙ ap (λ l. flat_map f (range_with_len 1 k) ++ l) (append-nil (f (k + 1)))
