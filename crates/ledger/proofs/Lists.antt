-- Lists that change at one place, and lists of lists.
use Rattle.ledger.proofs.Words.{◌≡◌, ℕ, zero, suc, ◌+◌, ◌<◌, List, [], ◌∷◌, ◌++◌, length, map, take, drop, set, get_or, refl, sym, ap, ◌∙◌, subst, add-one, arith, length-map, map-append, map_more, IsPermutation-refl, IsPermutation-trans, AllZip, IsPermutation}
use Rattle.ledger.specs.Ledger.{each_with}

module _ {A : Type 0} where
  pub length_more : (xs : List A) (x : A) (n : ℕ) → n ≡ length xs → n + 1 ≡ length (xs ++ x ∷ [])
  length_more [] x n e = ap (λ k. k + 1) e
  length_more (y ∷ ys) x n e = let rest = length_more ys x (length ys) refl in omega arith

  -- f was done at each place below i
  pub mixed_at : (f : A → A) (xs : List A) (i : ℕ) (d : A) → get_or (map f (take i xs) ++ drop i xs) i d ≡ get_or xs i d
  mixed_at f [] zero d = refl
  mixed_at f [] (suc i) d = refl
  mixed_at f (x ∷ xs) zero d = refl
  mixed_at f (x ∷ xs) (suc i) d = mixed_at f xs i d

  pub mixed_more : (f : A → A) (xs : List A) (i : ℕ) (d : A) → i < length xs → set (map f (take i xs) ++ drop i xs) i (f (get_or xs i d)) ≡ map f (take (suc i) xs) ++ drop (suc i) xs
  mixed_more f [] i d lt = absurd (omega arith)
  mixed_more f (x ∷ xs) zero d lt = refl
  mixed_more f (x ∷ xs) (suc i) d lt = ap (λ l. f x ∷ l) (mixed_more f xs i d (omega arith))

  pub map_take_more : {B : Type 0} (g : A → B) (xs : List A) (i : ℕ) (d : A) → i < length xs → map g (take (suc i) xs) ≡ map g (take i xs) ++ g (get_or xs i d) ∷ []
  map_take_more g xs i d lt = ap (λ k. map g (take k xs)) (sym (add-one i)) ∙ map_more g xs i d lt

-- two lists whose elements agree in one part
module _ {A B C : Type 0} (f : A → C) (g : B → C) where
  pub parts_agree : (xs : List A) (ys : List B) (i : ℕ) (d : A) (e : B) → i < length xs → map f xs ≡ map g ys → f (get_or xs i d) ≡ g (get_or ys i e)
  parts_agree [] ys i d e lt same = absurd (omega arith)
  parts_agree (x ∷ xs) [] i d e lt same = let long = ap length same in absurd (omega (arith, long))
  parts_agree (x ∷ xs) (y ∷ ys) zero d e lt same = ap (λ l. get_or l 0 (f x)) same
  parts_agree (x ∷ xs) (y ∷ ys) (suc i) d e lt same = parts_agree xs ys i d e (omega arith) (ap (λ l. drop 1 l) same)

  pub below_parts : (xs : List A) (ys : List B) (i : ℕ) → map f xs ≡ map g ys → i < length xs → i < length ys
  below_parts xs ys i same lt = subst (λ n. i < n) (sym (length-map xs f) ∙ ap length same ∙ length-map ys g) lt

module _ {A : Type 0} where
  -- each list of ys has the elements of the one of xs at its place
  abbrev pub Shuffled : List (List A) → List (List A) → Type 0
  Shuffled xs ys = AllZip IsPermutation xs ys

  pub Shuffled-refl : (xs : List (List A)) → Shuffled xs xs
  Shuffled-refl [] = tt
  Shuffled-refl (x ∷ xs) = (IsPermutation-refl x, Shuffled-refl xs)

  pub Shuffled-next : (xs front rest : List (List A)) (y z : List A) → Shuffled xs (front ++ y ∷ rest) → IsPermutation y z → Shuffled xs (front ++ z ∷ rest)
  Shuffled-next [] [] rest y z h p = absurd h
  Shuffled-next [] (f ∷ fs) rest y z h p = absurd h
  Shuffled-next (x ∷ xs) [] rest y z h p = (IsPermutation-trans x y z h.0 p, h.1)
  Shuffled-next (x ∷ xs) (f ∷ fs) rest y z h p = (h.0, Shuffled-next xs fs rest y z h.1 p)

  pub Shuffled-append : (as' bs xs ys : List (List A)) → Shuffled as' xs → Shuffled bs ys → Shuffled (as' ++ bs) (xs ++ ys)
  Shuffled-append [] bs [] ys h k = k
  Shuffled-append [] bs (x ∷ xs) ys h k = absurd h
  Shuffled-append (a ∷ as') bs [] ys h k = absurd h
  Shuffled-append (a ∷ as') bs (x ∷ xs) ys h k = (h.0, Shuffled-append as' bs xs ys h.1 k)

  pub Shuffled-at : (xs ys : List (List A)) (k : ℕ) → Shuffled xs ys → IsPermutation (get_or xs k []) (get_or ys k [])
  Shuffled-at [] [] k h = IsPermutation-refl []
  Shuffled-at [] (y ∷ ys) k h = absurd h
  Shuffled-at (x ∷ xs) [] k h = absurd h
  Shuffled-at (x ∷ xs) (y ∷ ys) zero h = h.0
  Shuffled-at (x ∷ xs) (y ∷ ys) (suc k) h = Shuffled-at xs ys k h.1

-- what is changed by rows
module _ {H R : Type 0} (f : H → R → H) where
  pub with-nil : (hs : List H) → each_with f hs [] ≡ hs
  with-nil [] = refl
  with-nil (h ∷ hs) = refl

  pub with-length : (hs : List H) (rows : List R) → length (each_with f hs rows) ≡ length hs
  with-length [] rows = refl
  with-length (h ∷ hs) [] = refl
  with-length (h ∷ hs) (x ∷ rows) = ap suc (with-length hs rows)

  -- what the rows leave as it is
  pub with-map : {A : Type 0} (g : H → A) → ((h : H) (x : R) → g (f h x) ≡ g h) → (hs : List H) (rows : List R) → map g (each_with f hs rows) ≡ map g hs
  with-map g same [] rows = refl
  with-map g same (h ∷ hs) [] = refl
  with-map g same (h ∷ hs) (x ∷ rows) = λ i. same h x i ∷ with-map g same hs rows i

  pub with-at : (hs : List H) (rows : List R) (d : H) → get_or (each_with f hs rows) (length rows) d ≡ get_or hs (length rows) d
  with-at [] [] d = refl
  with-at [] (x ∷ rows) d = refl
  with-at (h ∷ hs) [] d = refl
  with-at (h ∷ hs) (x ∷ rows) d = with-at hs rows d

  -- one row more
  pub with-more : (hs : List H) (rows : List R) (x : R) (d : H) → length rows < length hs
      → set (each_with f hs rows) (length rows) (f (get_or hs (length rows) d) x) ≡ each_with f hs (rows ++ x ∷ [])
  with-more [] rows x d lt = absurd (omega arith)
  with-more (h ∷ hs) [] x d lt = ap (λ l. f h x ∷ l) (sym (with-nil hs))
  with-more (h ∷ hs) (y ∷ rows) x d lt = ap (λ l. f h y ∷ l) (with-more hs rows x d (omega arith))

-- what tickets bring changes the places one after the other: the one at hand is as it was, and then it has the next ticket's
module _ {H R T : Type 0} (f : H → R → H) (row : T → R) (hs now : List H) (ys : List T) (at : ℕ) (d : H) (value : d ≡ get_or now at d) (so_far : now ≡ each_with f hs (map row ys)) (many : at ≡ length ys) where
  rows_many : at ≡ length (map row ys)
  rows_many = many ∙ sym (length-map ys row)

  as_before : d ≡ get_or hs (length (map row ys)) d
  as_before = value ∙ (λ j. get_or (so_far j) (rows_many j) d) ∙ with-at f hs (map row ys) d

  pub turn_at : d ≡ get_or hs (length ys) d
  turn_at = as_before ∙ ap (λ k. get_or hs k d) (length-map ys row)

  pub turn_more : (t : T) (new : H) → length ys < length hs → new ≡ f d (row t) → set now at new ≡ each_with f hs (map row (ys ++ t ∷ []))
  turn_more t new lt is =
      (λ j. set (so_far j) (rows_many j) (is j))
      ∙ (λ j. set (each_with f hs (map row ys)) (length (map row ys)) (f (as_before j) (row t)))
      ∙ with-more f hs (map row ys) (row t) d (subst (λ k. k < length hs) (sym (length-map ys row)) lt)
      ∙ (λ j. each_with f hs (sym (map-append row ys (t ∷ [])) j))
