-- How many pairs have a row, and where rows end, process by process.
use Rattle.drawing.proofs.Words.{◌≡◌, ◌≢◌, ◌∙◌, ℕ, zero, suc, add-one, Bool, true, false, cond, not, eqb, refl, ◌+◌, ◌*◌, ◌≤◌, List, [], ◌∷◌, ◌++◌, ap, arith, filter, length, length-append, append-nil, sum_by, eq-eqb, ne_eqb, filter-append, count_by-le-length, length-filter, sum_by_push, numbers_to, others, absent, group_height, groups_bottom}

length-numbers_to : (n : ℕ) → length (numbers_to n) ≡ n
length-numbers_to zero = refl
length-numbers_to (suc n) = length-append (numbers_to n) (suc n ∷ []) ∙ omega (arith, length-numbers_to n)

kept_few : {X : Type 0} (test : X → Bool) (xs : List X) → length (filter test xs) ≤ length xs
kept_few test xs = omega (arith, length-filter test xs, count_by-le-length test xs)

-- at most n of the first n
pub few : (test : ℕ → Bool) (n q : ℕ) → length (filter test (others n q)) ≤ n
few test n q =
    omega (arith, kept_few test (others n q), kept_few (λ p. not (eqb p q)) (numbers_to n), length-numbers_to n)

pub numbers_next : (n : ℕ) → numbers_to (n + 1) ≡ numbers_to n ++ (n + 1) ∷ []
numbers_next n = rw (add-one n) refl

-- the processes but q, one more: where it isn't q itself
others_next : (n q : ℕ) (b : Bool) → eqb (n + 1) q ≡ b → others (n + 1) q ≡ others n q ++ cond (not b) ((n + 1) ∷ []) []
others_next n q b e =
    ap (λ xs. filter (λ p. not (eqb p q)) xs) (numbers_next n) ∙ filter-append (λ p. not (eqb p q)) (numbers_to n) ((n + 1) ∷ [])
    ∙ ap (λ b. others n q ++ cond (not b) ((n + 1) ∷ []) []) e

pub others_itself : (n q : ℕ) → n + 1 ≡ q → others (n + 1) q ≡ others n q
others_itself n q e = others_next n q true (eq-eqb (n + 1) q e) ∙ append-nil (others n q)

pub others_other : (n q : ℕ) → n + 1 ≢ q → others (n + 1) q ≡ others n q ++ (n + 1) ∷ []
others_other n q e = others_next n q false (ne_eqb (n + 1) q e)

-- a loop over processes, one more
pub ruleset one_more = (numbers_next, others_itself, others_other)

-- a sum over the processes, one more
pub sum_more : (f : ℕ → ℕ) (k : ℕ) → sum_by f (numbers_to (k + 1)) ≡ sum_by f (numbers_to k) + f (suc k)
sum_more f k = ap (λ n. sum_by f (numbers_to n)) (add-one k) ∙ sum_by_push f (numbers_to k) (suc k)

sum_low : (f : ℕ → ℕ) (most : ℕ) → ((q : ℕ) → f q ≤ most) → (k : ℕ) → sum_by f (numbers_to k) ≤ k * most
sum_low f most h zero = omega arith
sum_low f most h (suc k) = omega (arith, sum_by_push f (numbers_to k) (suc k), sum_low f most h k, h (suc k))

module _ (has_row : (q p : ℕ) → Bool) (n : ℕ) where
  pub groups_more : (k : ℕ) → groups_bottom has_row n (k + 1) ≡ groups_bottom has_row n k + group_height has_row n (suc k)
  unfolding groups_bottom
  groups_more k = omega (arith, sum_more (group_height has_row n) k)

  pub groups_low : (k : ℕ) → n ≤ 16 → groups_bottom has_row n k ≤ k * 282 + 80
  unfolding groups_bottom
  groups_low k small = omega (arith, sum_low (group_height has_row n) 282 (λ q. omega (arith, few (has_row q) n q)) k)

  pub absents_low : (k : ℕ) → n ≤ 16 → sum_by (absent has_row n) (numbers_to k) ≤ k * 16
  absents_low k small = sum_low (absent has_row n) 16 (λ q. omega (arith, few (λ p. not (has_row q p)) n q)) k

pub ruleset low = (few, groups_low, absents_low)
