-- The units of points that follow one another, and of points in parts.
use Rattle.sweep.proofs.Words.{◌≡◌, ℕ, zero, suc, ◌+◌, ◌-◌, ◌*◌, List, [], ◌∷◌, ◌++◌, length, refl, sym, ap, ◌∙◌, arith, mul-sub, mul_comm, flat_map, range_with_len, flat_map-append, GridRecord, runs, unit_count, units_in, Rows}
use Rattle.sweep.specs.declared.layout.Rows.TheVariants as kind

-- numbers that follow one another, in two parts
range_append : (a n m : ℕ) → range_with_len a n ++ range_with_len (a + n) m ≡ range_with_len a (n + m)
range_append a zero m =
    let from : a + 0 ≡ a = omega arith in
    let count : m ≡ 0 + m = omega arith in
    ap (λ k. range_with_len k m) from ∙ ap (λ k. range_with_len a k) count
range_append a (suc n) m =
    let from : a + suc n ≡ a + 1 + n = omega arith in
    let count : suc (n + m) ≡ suc n + m = omega arith in
    ap (λ k. a ∷ (range_with_len (a + 1) n ++ range_with_len k m)) from
    ∙ ap (λ l. a ∷ l) (range_append (a + 1) n m)
    ∙ ap (λ k. range_with_len a k) count

-- the numbers of so many blocks that follow one another
blocks : (size a n : ℕ) → flat_map (λ block. range_with_len (block * size) size) (range_with_len a n)
    ≡ range_with_len (a * size) (n * size)
blocks size a zero = let none : 0 ≡ zero * size = omega arith in ap (λ k. range_with_len (a * size) k) none
blocks size a (suc n) =
    let next : (a + 1) * size ≡ a * size + size = omega arith in
    let count : size + n * size ≡ suc n * size = omega arith in
    ap (λ l. range_with_len (a * size) size ++ l) (blocks size (a + 1) n)
    ∙ ap (λ k. range_with_len (a * size) size ++ range_with_len k (n * size)) next
    ∙ range_append (a * size) size (n * size)
    ∙ ap (λ k. range_with_len (a * size) k) count

joined : {X Y Z : Type 0} (f : Y → List Z) (h : X → List Y) (xs : List X)
    → flat_map (λ x. flat_map f (h x)) xs ≡ flat_map f (flat_map h xs)
joined f h [] = refl
joined f h (x ∷ xs) = ap (λ l. flat_map f (h x) ++ l) (joined f h xs) ∙ sym (flat_map-append f (h x) (flat_map h xs))

module _ (rows : Rows) (g : GridRecord) where
  pub unit_range : (begin n : ℕ) → units_in rows g (range_with_len begin n)
      ≡ range_with_len (unit_count rows g begin) (unit_count rows g n)
  unit_range begin n = by rows
    where
      by : (k : Rows) → units_in k g (range_with_len begin n) ≡ range_with_len (unit_count k g begin) (unit_count k g n)
      by kind.Points = refl
      by kind.Runs = blocks (length (runs g)) begin n

  pub units_joined : {X : Type 0} (h : X → List ℕ) (xs : List X)
      → flat_map (λ x. units_in rows g (h x)) xs ≡ units_in rows g (flat_map h xs)
  units_joined {X} h xs = by rows
    where
      by : (k : Rows) → flat_map (λ x. units_in k g (h x)) xs ≡ units_in k g (flat_map h xs)
      by kind.Points = refl
      by kind.Runs = joined (λ point. range_with_len (point * length (runs g)) (length (runs g))) h xs

  pub unit_count-sub : (begin end : ℕ) → unit_count rows g (end - begin) ≡ unit_count rows g end - unit_count rows g begin
  unit_count-sub begin end = by rows
    where
      by : (k : Rows) → unit_count k g (end - begin) ≡ unit_count k g end - unit_count k g begin
      by kind.Points = refl
      by kind.Runs =
          let w : ℕ = length (runs g) in
          mul_comm (end - begin) w ∙ mul-sub w end begin ∙ ap (λ m. m - w * begin) (mul_comm w end) ∙ ap (λ m. end * w - m) (mul_comm w begin)
