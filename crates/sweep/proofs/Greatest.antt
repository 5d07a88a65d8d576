-- The greatest of some values.
use Rattle.sweep.proofs.Words.{◌≡◌, ◌⊎◌, inl, inr, ℕ, ◌<◌, ◌≤◌, max, Bool, true, false, Option, None, Some, List, [], ◌∷◌, ◌++◌, refl, ap, ◌∙◌, arith, ◌==◌, ◌||◌, cons_option, list_any, ne_eqb, ltb-true, lt-ltb, is_above, greater, greatest, eq-eqb}
use Rattle.std.proofs.Math.Bool.{or-true}

greater_assoc : (a b c : Option ℕ) → greater a (greater b c) ≡ greater (greater a b) c
greater_assoc None b c = refl
greater_assoc (Some a) None c = refl
greater_assoc (Some a) (Some b) None = refl
greater_assoc (Some a) (Some b) (Some c) = ap Some (omega arith)

-- of two lists, one after the other
pub greatest_both : (xs ys : List ℕ) → greatest (xs ++ ys) ≡ greater (greatest xs) (greatest ys)
greatest_both [] ys = refl
greatest_both (x ∷ xs) ys = ap (greater (Some x)) (greatest_both xs ys) ∙ greater_assoc (Some x) (greatest xs) (greatest ys)

pub greatest_one : (o : Option ℕ) → greatest (cons_option o []) ≡ o
greatest_one None = refl
greatest_one (Some v) = refl

-- ---- the greatest is one of them, and what is above it isn't

module _ (v : ℕ) where
  abbrev pub has : List ℕ → Bool
  has values = list_any (λ w. w == v) values

  pub has_greatest : (values : List ℕ) → greatest values ≡ Some v → has values ≡ true
  has_greatest [] is = cc
  has_greatest (x ∷ xs) is = by (greatest xs) is (has_greatest xs)
    where
      total : (m : ℕ) → (m ≤ x) ⊎ (x < m)
      total m = grind arith

      by : (o : Option ℕ) → greater (Some x) o ≡ Some v → (o ≡ Some v → has xs ≡ true) → has (x ∷ xs) ≡ true
      by None p later =
          let same : x ≡ v = cc in
          ap (λ b. b || has xs) (eq-eqb x v same)
      by (Some m) p later = elim (total m) [
        | inl le ↦
            let most : max x m ≡ v = cc in
            let same : x ≡ v = omega arith in
            ap (λ b. b || has xs) (eq-eqb x v same)
        | inr lt ↦
            let most : max x m ≡ v = cc in
            let same : m ≡ v = omega arith in
            ap (λ b. (x == v) || b) (later (ap Some same)) ∙ or-true (x == v)
      ]

  pub has_none_above : (values : List ℕ) → is_above (Some v) (greatest values) ≡ true → has values ≡ false
  has_none_above [] is = refl
  has_none_above (x ∷ xs) is = by (greatest xs) is (has_none_above xs)
    where
      none_here : x < v → has xs ≡ false → has (x ∷ xs) ≡ false
      none_here lt later = ap (λ b. b || has xs) (ne_eqb x v (λ e. omega (arith, e, lt))) ∙ later

      by : (o : Option ℕ) → is_above (Some v) (greater (Some x) o) ≡ true → (is_above (Some v) o ≡ true → has xs ≡ false) → has (x ∷ xs) ≡ false
      by None p later = none_here (ltb-true x v p) (later refl)
      by (Some m) p later =
          let lt : max x m < v = ltb-true (max x m) v p in
          none_here (omega arith) (later (lt-ltb m v (omega arith)))
