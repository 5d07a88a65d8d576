-- A list that rises by its keys is the only sorted order of its elements.
use Rattle.windows.proofs.Words.{◌≡◌, ◌≢◌, ℕ, suc, ◌<◌, List, [], ◌∷◌, map, length, get_or, refl, sym, ap, ◌∙◌, subst, arith, inl, inr, nat_eq, All, IsPermutation, IsNonDecreasingBy, get_or-map, length-map, Contains-permutation, IsPermutation-map, IsPermutation-sym, IsIn, RiseBy, zero, Contains, Contains-append_right, AllPairs}
use Rattle.std.proofs.lemmas.{Bool.Decides.{Decides-eqb, nat_tests}, Map.{Keys.{IsDistinct-IsPermutation}, Made.{AllPairs-from_IsDistinct, IsDistinct-from_AllPairs}}}

-- ---- `IsIn`, by cases on the list, and std's `Contains`, by index, say the same

at_place : {X : Type 0} (xs : List X) (x : X) (k : ℕ) → k < length xs → get_or xs k x ≡ x → IsIn x xs
at_place [] x k inside e = absurd (omega arith)
at_place (y ∷ ys) x zero inside e = inl (sym e)
at_place (y ∷ ys) x (suc k) inside e = inr (at_place ys x k (omega arith) e)

pub contains_in : {X : Type 0} (xs : List X) (x : X) → Contains xs x → IsIn x xs
contains_in xs x c = at_place xs x c.0 c.1 c.2

pub in_contains : {X : Type 0} (xs : List X) (x : X) → IsIn x xs → Contains xs x
in_contains [] x i = absurd i
in_contains (y ∷ ys) x (inl e) = (0, omega arith, sym e)
in_contains (y ∷ ys) x (inr i) = Contains-append_right (y ∷ []) ys x (in_contains ys x i)

flips : (a b : ℕ) → nat_eq a b ≡ nat_eq b a
flips a b = grind (arith, nat_tests)

pub in_permutation : {X : Type 0} (xs ys : List X) → IsPermutation xs ys → (x : X) → IsIn x xs → IsIn x ys
in_permutation xs ys p x i = contains_in ys x (Contains-permutation xs ys x p (in_contains xs x i))

module _ {X : Type 0} (key : X → ℕ) where
  above : (x : X) (xs : List X) → RiseBy key (x ∷ xs) → (y : X) → IsIn y xs → key x < key y
  above x xs r y i = let c = in_contains xs y i in subst (λ z. key x < key z) c.2 (r 0 (suc c.0) y (omega arith) (omega (arith, c.1)))

  -- each has one alone at the front, and the rest
  same_front : (x y : X) (xs ys : List X) → RiseBy key (x ∷ xs) → RiseBy key (y ∷ ys) → IsIn x (y ∷ ys) → IsIn y (x ∷ xs) → x ≡ y
  same_front x y xs ys a b (inl e) j = e
  same_front x y xs ys a b (inr i) (inl e) = sym e
  same_front x y xs ys a b (inr i) (inr j) = let low = above x xs a y j in let high = above y ys b x i in absurd (omega arith)

  behind : (x y z : X) (xs ys : List X) → RiseBy key (x ∷ xs) → x ≡ y → IsIn z xs → IsIn z (y ∷ ys) → IsIn z ys
  behind x y z xs ys a same i (inl e) = let low = above x xs a z i in let here : key z ≡ key x = ap key (e ∙ sym same) in absurd (omega arith)
  behind x y z xs ys a same i (inr j) = j

  same_rising : (xs ys : List X) → RiseBy key xs → RiseBy key ys → ((x : X) → IsIn x xs → IsIn x ys) → ((x : X) → IsIn x ys → IsIn x xs) → xs ≡ ys
  same_rising [] [] r s f g = refl
  same_rising [] (y ∷ ys) r s f g = absurd (g y (inl refl))
  same_rising (x ∷ xs) [] r s f g = absurd (f x (inl refl))
  same_rising (x ∷ xs) (y ∷ ys) r s f g =
      let same : x ≡ y = same_front x y xs ys r s (f x (inl refl)) (g y (inl refl)) in
      let rest : xs ≡ ys = same_rising xs ys (λ i j d lt within. r (suc i) (suc j) d (omega (arith, lt)) (omega (arith, within))) (λ i j d lt within. s (suc i) (suc j) d (omega (arith, lt)) (omega (arith, within)))
      (λ z i. behind x y z xs ys r same i (f z (inr i))) (λ z i. behind y x z ys xs s (sym same) i (g z (inr i))) in
      λ i. same i ∷ rest i

  -- keys that rise differ, and keys that differ and don't fall rise
  differ : (xs : List X) → RiseBy key xs → AllPairs (λ a b. a ≢ b) (map key xs)
  differ [] r i j d lt within e = absurd (omega arith)
  differ (x ∷ xs) r i j d lt within e =
      let less : j < length (x ∷ xs) = omega (arith, within, length-map (x ∷ xs) key) in
      omega (arith, r i j x lt less, e, get_or-map key (x ∷ xs) i x d (omega (arith, lt, less)), get_or-map key (x ∷ xs) j x d less)

  rises : (xs : List X) → IsNonDecreasingBy key xs → AllPairs (λ a b. a ≢ b) (map key xs) → RiseBy key xs
  rises xs up differ i j d lt within =
      omega (arith, up i j d (omega (arith, lt)) within, differ i j (key d) lt (omega (arith, within, length-map xs key)), get_or-map key xs i d (key d) (omega (arith, lt, within)), get_or-map key xs j d (key d) within)

  -- a sorted order of a list that rises is that list
  pub sorted_is : (xs ys : List X) → RiseBy key xs → IsPermutation xs ys → IsNonDecreasingBy key ys → ys ≡ xs
  sorted_is xs ys r p up =
      let keys = IsDistinct-IsPermutation nat_eq flips (map key xs) (map key ys) (IsPermutation-map key xs ys p) (IsDistinct-from_AllPairs Decides-eqb (map key xs) (differ xs r)) in
      same_rising ys xs (rises ys up (AllPairs-from_IsDistinct Decides-eqb (map key ys) keys)) r (in_permutation ys xs (IsPermutation-sym xs ys p)) (in_permutation xs ys p)

-- what keeps each key keeps the order
pub same_order : {X Y : Type 0} (key : Y → ℕ) (f g : X → Y) (xs : List X) → All (λ x. key (f x) ≡ key (g x)) xs → IsNonDecreasingBy key (map g xs) → IsNonDecreasingBy key (map f xs)
same_order key f g [] same up i j d le lt = absurd (omega arith)
same_order key f g (x ∷ xs) same up i j d le lt =
    let less : j < length (x ∷ xs) = omega (arith, lt, length-map (x ∷ xs) f) in
    let at : (k : ℕ) → k < length (x ∷ xs) → key (get_or (map f (x ∷ xs)) k d) ≡ key (get_or (map g (x ∷ xs)) k d) =
    λ k l. ap key (get_or-map f (x ∷ xs) k x d l) ∙ (same k x l ∙ ap key (sym (get_or-map g (x ∷ xs) k x d l))) in
    omega (arith, at i (omega (arith, le, less)), at j less, up i j d le (omega (arith, less, length-map (x ∷ xs) g)))
