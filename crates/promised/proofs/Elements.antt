-- What holds of an element, where something is known of the whole list.
use Rattle.promised.proofs.Words.{◌≡◌, ◌⊎◌, ◌∙◌, sym, ap, subst, refl, inl, inr, ℕ, zero, suc, ◌+◌, ◌<◌, ◌≤◌, max, Bool, true, false, cond, ◌||◌, true≢false, Option, None, Some, List, [], ◌∷◌, filter, flat_map, filter_map, fold, length, count_by, arith, list_any, range_with_len, reduce, cons_option, IsIn}
use Rattle.std.proofs.lemmas.List.{Concat.{flat_map-cons}, Sums.{count_by-le-length, length-filter}}
use Rattle.trace_laws.proofs.Steps.{in_append, in_left, in_right}

first_or_later : (p a : ℕ) → a ≤ p → (p ≡ a) ⊎ (a + 1 ≤ p)
first_or_later p a low = grind arith

pub in_range : (p a n : ℕ) → a ≤ p → p < a + n → IsIn p (range_with_len a n)
in_range p a zero low high = absurd (omega (arith, low, high))
in_range p a (suc n) low high = elim (first_or_later p a low) [
  | inl same ↦ inl same
  | inr later ↦ inr (in_range p (a + 1) n later (omega (arith, high)))
]

pub in_each : {X Y : Type 0} (f : X → List Y) (x : X) (y : Y) (xs : List X) → IsIn x xs → IsIn y (f x) → IsIn y (flat_map f xs)
in_each f x y [] none in_it = absurd none
in_each f x y (z ∷ xs) (inl e) in_it =
    subst (IsIn y) (sym (flat_map-cons f z xs)) (in_left y (f z) (flat_map f xs) (subst (λ a. IsIn y (f a)) e in_it))
in_each f x y (z ∷ xs) (inr i) in_it =
    subst (IsIn y) (sym (flat_map-cons f z xs)) (in_right y (f z) (flat_map f xs) (in_each f x y xs i in_it))

pub in_chosen : {X Y : Type 0} (h : X → Option Y) (x : X) (y : Y) (xs : List X) → IsIn x xs → h x ≡ Some y → IsIn y (filter_map h xs)
in_chosen h x y [] none is = absurd none
in_chosen h x y (z ∷ xs) (inl e) is =
    subst (λ o. IsIn y (cons_option o (filter_map h xs))) (sym (ap h (sym e) ∙ is)) (inl refl)
in_chosen {Y = Y} h x y (z ∷ xs) (inr i) is = behind (h z) (in_chosen h x y xs i is)
  where
    behind : (o : Option Y) → IsIn y (filter_map h xs) → IsIn y (cons_option o (filter_map h xs))
    behind None its = its
    behind (Some first) its = inr its

-- the greatest of a list is at least each of its numbers
from_first : (first : ℕ) (xs : List ℕ) → first ≤ fold max first xs
from_first first [] = omega arith
from_first first (x ∷ xs) = omega (arith, from_first (max first x) xs)

at_least : (first x : ℕ) (xs : List ℕ) → IsIn x xs → x ≤ fold max first xs
at_least first x [] none = absurd none
at_least first x (y ∷ xs) (inl e) = omega (arith, e, from_first (max first y) xs)
at_least first x (y ∷ xs) (inr i) = at_least (max first y) x xs i

pub below_greatest : (x : ℕ) (xs : List ℕ) → IsIn x xs → (most : ℕ) × (reduce max xs ≡ Some most) × (x ≤ most)
below_greatest x [] none = absurd none
below_greatest x (y ∷ xs) (inl e) = (fold max y xs, refl, omega (arith, e, from_first y xs))
below_greatest x (y ∷ xs) (inr i) = (fold max y xs, refl, at_least y x xs i)

neither : (a b : Bool) → (a || b) ≡ false → (a ≡ false) × (b ≡ false)
neither true b h = absurd (true≢false h)
neither false b h = (refl, h)

pub none_passes : {X : Type 0} (test : X → Bool) (x : X) (xs : List X) → IsIn x xs → list_any test xs ≡ false → test x ≡ false
none_passes test x [] none h = absurd none
none_passes test x (y ∷ xs) (inl e) h = ap test e ∙ (neither (test y) (list_any test xs) h).0
none_passes test x (y ∷ xs) (inr i) h = none_passes test x xs i (neither (test y) (list_any test xs) h).1

pub all_pass : {X : Type 0} (test : X → Bool) (x : X) (xs : List X) → IsIn x xs → count_by test xs ≡ length xs → test x ≡ true
all_pass {X = X} test x xs i h = go xs i (length-filter test xs ∙ h)
  where
    none_dropped : (y : X) (ys : List X) (b : Bool) → length (cond b (y ∷ filter test ys) (filter test ys)) ≡ suc (length ys) → (b ≡ true) × (length (filter test ys) ≡ length ys)
    none_dropped y ys true e = (refl, omega (arith, e))
    none_dropped y ys false e = absurd (omega (arith, e, length-filter test ys, count_by-le-length test ys))

    go : (ys : List X) → IsIn x ys → length (filter test ys) ≡ length ys → test x ≡ true
    go [] none e = absurd none
    go (y ∷ ys) (inl same) e = ap test same ∙ (none_dropped y ys (test y) e).0
    go (y ∷ ys) (inr i) e = go ys i (none_dropped y ys (test y) e).1

-- ---- what an element of a list that was made says of the list that it was made of

pub of_range : (p a n : ℕ) → IsIn p (range_with_len a n) → (a ≤ p) × (p < a + n)
of_range p a zero none = absurd none
of_range p a (suc n) (inl e) = (omega (arith, e), omega (arith, e))
of_range p a (suc n) (inr i) = let r = of_range p (a + 1) n i in (omega (arith, r.0), omega (arith, r.1))

pub of_filter : {X : Type 0} (test : X → Bool) (x : X) (xs : List X) → IsIn x (filter test xs) → IsIn x xs × (test x ≡ true)
of_filter test x [] none = absurd none
of_filter test x (y ∷ xs) i = by (test y) refl i (of_filter test x xs)
  where
    by : (b : Bool) → test y ≡ b → IsIn x (cond b (y ∷ filter test xs) (filter test xs))
        → (IsIn x (filter test xs) → IsIn x xs × (test x ≡ true)) → IsIn x (y ∷ xs) × (test x ≡ true)
    by true is (inl e) later = (inl e, ap test e ∙ is)
    by true is (inr j) later = let r = later j in (inr r.0, r.1)
    by false is j later = let r = later j in (inr r.0, r.1)

pub of_each : {X Y : Type 0} (f : X → List Y) (y : Y) (xs : List X) → IsIn y (flat_map f xs) → (x : X) × IsIn x xs × IsIn y (f x)
of_each f y [] none = absurd none
of_each f y (z ∷ xs) i = elim (in_append y (f z) (flat_map f xs) (subst (IsIn y) (flat_map-cons f z xs) i)) [
  | inl here ↦ (z, inl refl, here)
  | inr behind ↦ let r = of_each f y xs behind in (r.0, inr r.1, r.2)
]

pub of_chosen : {X Y : Type 0} (h : X → Option Y) (y : Y) (xs : List X) → IsIn y (filter_map h xs) → (x : X) × IsIn x xs × (h x ≡ Some y)
of_chosen h y [] none = absurd none
of_chosen {X} h y (z ∷ xs) i = by (h z) refl i (of_chosen h y xs)
  where
    by : (o : Option _) → h z ≡ o → IsIn y (cons_option o (filter_map h xs))
        → (IsIn y (filter_map h xs) → (x : X) × IsIn x xs × (h x ≡ Some y)) → (x : X) × IsIn x (z ∷ xs) × (h x ≡ Some y)
    by None is j later = let r = later j in (r.0, inr r.1, r.2)
    by (Some first) is (inl e) later = (z, inl refl, is ∙ ap Some (sym e))
    by (Some first) is (inr j) later = let r = later j in (r.0, inr r.1, r.2)

pub some_passes : {X : Type 0} (test : X → Bool) (xs : List X) → list_any test xs ≡ true → (x : X) × IsIn x xs × (test x ≡ true)
some_passes test [] h = absurd (true≢false (sym h))
some_passes {X} test (y ∷ xs) h = by (test y) refl h (some_passes test xs)
  where
    by : (b : Bool) → test y ≡ b → (b || list_any test xs) ≡ true → (list_any test xs ≡ true → (x : X) × IsIn x xs × (test x ≡ true))
        → (x : X) × IsIn x (y ∷ xs) × (test x ≡ true)
    by true is any later = (y, inl refl, is)
    by false is any later = let r = later any in (r.0, inr r.1, r.2)

-- the greatest is one of them
either : (a b : ℕ) → (b ≤ a) ⊎ (a ≤ b)
either a b = grind arith

is_one : (first : ℕ) (xs : List ℕ) → IsIn (fold max first xs) (first ∷ xs)
is_one first [] = inl refl
is_one first (x ∷ xs) = by (fold max (max first x) xs) (is_one (max first x) xs)
  where
    by : (most : ℕ) → IsIn most (max first x ∷ xs) → IsIn most (first ∷ x ∷ xs)
    by most (inr i) = inr (inr i)
    by most (inl e) = elim (either first x) [
      | inl low ↦ inl (omega (arith, e, low))
      | inr high ↦ inr (inl (omega (arith, e, high)))
    ]

pub greatest_in : (most : ℕ) (xs : List ℕ) → reduce max xs ≡ Some most → IsIn most xs
greatest_in most [] is = absurd (cc)
greatest_in most (x ∷ xs) is = let same : fold max x xs ≡ most = cc in subst (λ m. IsIn m (x ∷ xs)) same (is_one x xs)
