-- Blocks of points.
use Rattle.study.proofs.Basics.{◌≡◌, ℕ, zero, suc, ◌+◌, ◌-◌, ◌*◌, ◌/◌, ◌≤◌, ◌<◌, List, [], ◌∷◌, ◌++◌, length, take, drop, refl, sym, ◌∙◌, ap, arith, flat_map, range_with_len, div-lt_iff_lt-mul, div-mul-le_self, mul-le-mul_left, mul-div_left, mul-zero, zero-div, mul-suc, add-mul, lt-div-mul-add, le-div, length-range_with_len}
use Rattle.std.proofs.{lemmas.List.{length-drop, length-take, drop_all}, Math.Seq.{take-length}}
use Rattle.study.specs.Grid.{ShardRecord, IsShard, before, begin_of, end_of, block, AreAll, AreEven}

-- two parts that meet
joined : {X : Type 0} (xs : List X) (i j k : ℕ) → i ≤ j → j ≤ k → drop i (take j xs) ++ drop j (take k xs) ≡ drop i (take k xs)
joined xs zero zero k below after = refl
joined (x ∷ xs) zero (suc j) (suc k) below after = ap (λ ys. x ∷ ys) (joined xs zero j k (omega arith) (omega arith))
joined (x ∷ xs) (suc i) (suc j) (suc k) below after = joined xs i j k (omega arith) (omega arith)
joined [] zero (suc j) (suc k) below after = refl
joined [] (suc i) (suc j) (suc k) below after = refl
joined xs _ _ _ below after = absurd (omega arith)

module _ (points of : ℕ) (some : 0 < of) where
  -- more blocks have no fewer points
  before-le : (a b : ℕ) → a ≤ b → before points a of ≤ before points b of
  before-le a b le =
      le-div (points * a / of) (points * b) of some (omega (arith, div-mul-le_self (points * a) of, mul-le-mul_left points le))

  before-all : before points of of ≡ points
  before-all = mul-div_left points some

  before-high : (a : ℕ) → a ≤ of → before points a of ≤ points
  before-high a le = omega (arith, before-all, before-le a of le)

  -- each block takes the same part of the points, or one more
  grown : (k : ℕ) → (before points k of + points / of ≤ before points (suc k) of)
      × (before points (suc k) of ≤ before points k of + points / of + 1)
  grown k =
      let next : points * suc k ≡ points * k + points = mul-suc points k in
      let low_k : points * k / of * of ≤ points * k = div-mul-le_self (points * k) of in
      let high_k : points * k < points * k / of * of + of = lt-div-mul-add some in
      let low : points / of * of ≤ points = div-mul-le_self points of in
      let high : points < points / of * of + of = lt-div-mul-add some in
      let split = add-mul (points * k / of) (points / of) of in
      let split_more = add-mul (points * k / of + points / of) 2 of in
      let below : points * suc k / of < points * k / of + points / of + 2 = (div-lt_iff_lt-mul some).1 (omega arith) in
      (le-div (points * k / of + points / of) (points * suc k) of some (omega arith), omega arith)

-- how many points a block has
near : (points : List ℕ) (s : ShardRecord) → IsShard s
    → (length points / s.of ≤ length (block points s)) × (length (block points s) ≤ length points / s.of + 1)
near points s is =
    let n = length points in
    let some : 0 < s.of = omega (arith, is.low, is.high) in
    let high : end_of n s ≤ n = before-high n s.of some s.number is.high in
    let long = length-drop (begin_of n s) (take (end_of n s) points) in
    let most = length-take (end_of n s) points in
    let by = grown n s.of some (s.number - 1) in
    let same : before n (suc (s.number - 1)) s.of ≡ end_of n s = ap (λ k. before n k s.of) (omega (arith, is.low)) in
    (omega arith, omega arith)

blocks_from : (points : List ℕ) (of a m : ℕ) → 0 < of
    → flat_map (λ number. block points (record { number = number; of = of })) (range_with_len (a + 1) m)
    ≡ drop (before (length points) a of) (take (before (length points) (a + m) of) points)
blocks_from points of a zero some =
    let same : before (length points) (a + 0) of ≡ before (length points) a of =
    ap (λ k. before (length points) k of) (omega arith) in
    sym (drop_all (before (length points) a of) (take (before (length points) (a + 0) of) points)
    (omega (arith, length-take (before (length points) (a + 0) of) points)))
blocks_from points of a (suc m) some =
    let n = length points in
    let rest = blocks_from points of (a + 1) m some in
    let first : a + 1 - 1 ≡ a = omega arith in
    let last : a + 1 + m ≡ a + suc m = omega arith in
    ap (λ ys. block points (record { number = a + 1; of = of }) ++ ys) rest
    ∙ (ap (λ k. drop (before n k of) (take (before n (a + 1) of) points)
    ++ drop (before n (a + 1) of) (take (before n (a + 1 + m) of) points)) first
    ∙ (joined points (before n a of) (before n (a + 1) of) (before n (a + 1 + m) of)
    (before-le n of some a (a + 1) (omega arith)) (before-le n of some (a + 1) (a + 1 + m) (omega arith))
    ∙ ap (λ k. drop (before n a of) (take (before n k of) points)) last))

pub all_blocks : (of : ℕ) → 1 ≤ of → AreAll of
all_blocks of some points =
    let n = length points in
    let none : before n 0 of ≡ 0 = ap (λ x. x / of) (mul-zero n) ∙ zero-div of in
    let whole : before n (0 + of) of ≡ n = ap (λ k. before n k of) (omega arith) ∙ before-all n of (omega arith) in
    blocks_from points of 0 of (omega arith)
    ∙ (ap (λ i. drop i (take (before n (0 + of) of) points)) none ∙ (ap (λ i. take i points) whole ∙ take-length points))

pub even_blocks : (of : ℕ) → 1 ≤ of → AreEven of
even_blocks of some points a b is_a is_b of_a of_b =
    let for_a = near points a is_a in
    let for_b = near points b is_b in
    let same : length points / a.of ≡ length points / b.of = ap (λ n. length points / n) (of_a ∙ sym of_b) in
    omega arith

-- parts of numbers in a row
taken : (a n k : ℕ) → k ≤ n → take k (range_with_len a n) ≡ range_with_len a k
taken a n zero le = refl
taken a zero (suc k) le = absurd (omega arith)
taken a (suc n) (suc k) le = ap (λ ys. a ∷ ys) (taken (a + 1) n k (omega arith))

dropped : (a n k : ℕ) → k ≤ n → drop k (range_with_len a n) ≡ range_with_len (a + k) (n - k)
dropped a n zero le = ap (λ m. range_with_len a m) (omega arith) ∙ ap (λ b. range_with_len b (n - zero)) (omega arith)
dropped a zero (suc k) le = absurd (omega arith)
dropped a (suc n) (suc k) le =
    dropped (a + 1) n k (omega arith)
    ∙ (ap (λ b. range_with_len b (n - k)) (omega arith) ∙ ap (λ m. range_with_len (a + suc k) m) (omega arith))

-- the block of numbered points
pub block_of_range : (points : ℕ) (s : ShardRecord) → IsShard s
    → block (range_with_len 0 points) s ≡ range_with_len (begin_of points s) (end_of points s - begin_of points s)
block_of_range points s is =
    let some : 0 < s.of = omega (arith, is.low, is.high) in
    ap (λ n. drop (begin_of n s) (take (end_of n s) (range_with_len 0 points))) (length-range_with_len 0 points)
    ∙ (ap (drop (begin_of points s)) (taken 0 points (end_of points s) (before-high points s.of some s.number is.high))
    ∙ (dropped 0 (end_of points s) (begin_of points s) (before-le points s.of some (s.number - 1) s.number (omega arith))
    ∙ ap (λ b. range_with_len b (end_of points s - begin_of points s)) (omega arith)))
