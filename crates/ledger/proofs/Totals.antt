-- What all passes have together, when one of them changes.
use Rattle.ledger.proofs.Words.{◌≡◌, ◌≢◌, ℕ, zero, suc, ◌+◌, List, [], ◌∷◌, ◌++◌, set, sym, refl, ap, ◌∙◌, subst, append_assoc, arith, sum_by-cons, IsPermutation-append_right, IsPermutation-append_comm, flat_map, sum_by, IsPermutation, some, some-injective, some-ne-none, get_elem?}

module _ {V : Type 0} where
  pub total_set : (f : V → ℕ) (views : List V) (port : ℕ) (v w : V) → get_elem? views port ≡ some v → sum_by f (set views port w) + f v ≡ sum_by f views + f w
  total_set f [] port v w at = absurd (some-ne-none v (sym at))
  total_set f (x ∷ xs) zero v w at = let same : f x ≡ f v = ap f (some-injective x v at) in omega (arith, sum_by-cons f x xs, sum_by-cons f w xs)
  total_set f (x ∷ xs) (suc j) v w at = let rest = total_set f xs j v w at in omega (arith, sum_by-cons f x xs, sum_by-cons f x (set xs j w))

  -- what is zero at each other pass adds nothing
  pub total_none : (f : V → ℕ) (views : List V) → ((j : ℕ) (u : V) → get_elem? views j ≡ some u → f u ≡ 0) → sum_by f views ≡ 0
  total_none f [] z = refl
  total_none f (x ∷ xs) z = let here = z 0 x refl in let rest = total_none f xs (λ j u at. z (suc j) u at) in omega (arith, sum_by-cons f x xs)

  pub none_total : (f : V → ℕ) (views : List V) → sum_by f views ≡ 0 → (j : ℕ) (u : V) → get_elem? views j ≡ some u → f u ≡ 0
  none_total f [] z j u at = absurd (some-ne-none u (sym at))
  none_total f (x ∷ xs) z zero u at = let same : f x ≡ f u = ap f (some-injective x u at) in omega (arith, sum_by-cons f x xs)
  none_total f (x ∷ xs) z (suc j) u at = none_total f xs (omega (arith, sum_by-cons f x xs)) j u at

  module _ {T : Type 0} (f : V → List T) where
    pub gather_same : (views : List V) (port : ℕ) (v w : V) → get_elem? views port ≡ some v → f w ≡ f v → flat_map f (set views port w) ≡ flat_map f views
    gather_same [] port v w at e = absurd (some-ne-none v (sym at))
    gather_same (x ∷ xs) zero v w at e = ap (λ l. l ++ flat_map f xs) (e ∙ sym (ap f (some-injective x v at)))
    gather_same (x ∷ xs) (suc j) v w at e = ap (λ l. f x ++ l) (gather_same xs j v w at e)

    -- one pass has xs more
    pub gather_more : (views : List V) (port : ℕ) (v w : V) (xs : List T) → get_elem? views port ≡ some v → f w ≡ f v ++ xs → IsPermutation (flat_map f views ++ xs) (flat_map f (set views port w))
    gather_more [] port v w xs at e = absurd (some-ne-none v (sym at))
    gather_more (x ∷ vs) zero v w xs at e =
        let rest = flat_map f vs in
        let moved : IsPermutation (f x ++ (rest ++ xs)) (f x ++ (xs ++ rest)) = IsPermutation-append_right (f x) _ _ (IsPermutation-append_comm rest xs) in
        let here : f x ++ xs ≡ f w = ap (λ l. l ++ xs) (ap f (some-injective x v at)) ∙ sym e in
        subst (λ (p : List T × List T). IsPermutation p.0 p.1) (λ i. (sym (append_assoc (f x) rest xs) i, (sym (append_assoc (f x) xs rest) ∙ ap (λ l. l ++ rest) here) i)) moved
    gather_more (x ∷ vs) (suc j) v w xs at e =
        let moved : IsPermutation (f x ++ (flat_map f vs ++ xs)) (f x ++ flat_map f (set vs j w)) = IsPermutation-append_right (f x) _ _ (gather_more vs j v w xs at e) in
        subst (λ (l : List T). IsPermutation l (f x ++ flat_map f (set vs j w))) (sym (append_assoc (f x) (flat_map f vs) xs)) moved

    pub gather_none : (views : List V) → ((j : ℕ) (u : V) → get_elem? views j ≡ some u → f u ≡ []) → flat_map f views ≡ []
    gather_none [] z = refl
    gather_none (x ∷ xs) z = (λ i. z 0 x refl i ++ flat_map f xs) ∙ gather_none xs (λ j u at. z (suc j) u at)

  pub set_commutes : (l : List V) (i j : ℕ) (a b : V) → j ≢ i → set (set l i a) j b ≡ set (set l j b) i a
  set_commutes [] i j a b n = refl
  set_commutes (x ∷ xs) zero zero a b n = absurd (n refl)
  set_commutes (x ∷ xs) zero (suc j) a b n = refl
  set_commutes (x ∷ xs) (suc i) zero a b n = refl
  set_commutes (x ∷ xs) (suc i) (suc j) a b n = ap (λ l. x ∷ l) (set_commutes xs i j a b (λ e. n (ap suc e)))
