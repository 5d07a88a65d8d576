-- Cells by sender and then by receiver, one of each pair.
use Rattle.scenario.proofs.Words.{◌≡◌, ℕ, zero, suc, ◌+◌, ◌-◌, ◌*◌, ◌/◌, ◌%◌, ◌<◌, List, [], ◌∷◌, map, length, get_or, take, refl, ap, sym, ◌∙◌, arith, subst, range_with_len, flat_map, div-add-mod', length-range_with_len, get_or-range_with_len, get_or-map-range_with_len, length-map-range_with_len, AreProcesses}
use Rattle.scenario.proofs.KeyFacts.{pair_place}
use Rattle.std.proofs.{lemmas.List.{ext_get_or, length-append, length-take, Concat.{get_or-flat_map}}, Math.Nat.{zero-mul, suc-mul, mod-lt, div-lt_iff_lt-mul}}

rows_length : {X : Type 0} (g : ℕ → ℕ → X) (n : ℕ) (xs : List ℕ) → length (flat_map (λ f. map (g f) (range_with_len 1 n)) xs) ≡ length xs * n
rows_length g n [] = sym (zero-mul n)
rows_length g n (x ∷ xs) =
    let one : length (map (g x) (range_with_len 1 n)) ≡ n = length-map-range_with_len (g x) 1 n in
    let rest : length (flat_map (λ f. map (g f) (range_with_len 1 n)) xs) ≡ length xs * n = rows_length g n xs in
    let more : suc (length xs) * n ≡ length xs * n + n = suc-mul (length xs) n in
    length-append (map (g x) (range_with_len 1 n)) (flat_map (λ f. map (g f) (range_with_len 1 n)) xs) ∙ omega arith

-- the k-th of row j, rows of n one after the other
cell_at : {X : Type 0} (g : ℕ → ℕ → X) (n j k : ℕ) (d : X) → j < n → k < n
    → get_or (flat_map (λ f. map (g f) (range_with_len 1 n)) (range_with_len 1 n)) (j * n + k) d ≡ g (1 + j) (1 + k)
cell_at g n j k d low in_row =
    let row = λ (f : ℕ). map (g f) (range_with_len 1 n) in
    let count : length (take j (range_with_len 1 n)) ≡ j = omega (arith, length-take j (range_with_len 1 n), length-range_with_len 1 n) in
    let before : length (flat_map row (take j (range_with_len 1 n))) ≡ j * n = rows_length g n (take j (range_with_len 1 n)) ∙ ap (λ l. l * n) count in
    ap (λ i. get_or (flat_map row (range_with_len 1 n)) (i + k) d) (sym before)
    ∙ (get_or-flat_map row (range_with_len 1 n) j k 0 d (simp length-range_with_len low) (simp length-map-range_with_len in_row)
    ∙ (ap (λ f. get_or (row f) k d) (get_or-range_with_len 1 n j 0 low) ∙ get_or-map-range_with_len (g (1 + j)) 1 n k (1 + k) d in_row refl))

-- a place is that of some pair
some_pair : (n i : ℕ) → i < n * n → (pair : ℕ × ℕ) × (AreProcesses n pair × (i ≡ pair_place n pair))
some_pair zero i lt = absurd (let none : zero * zero ≡ zero = zero-mul zero in omega arith)
some_pair (suc n) i lt =
    let row : i / suc n < suc n = (div-lt_iff_lt-mul {k = suc n} {x = i} {y = suc n} (omega arith)).1 lt in
    let column : i % suc n < suc n = mod-lt i {m = suc n} (omega arith) in
    let first : i / suc n + 1 - 1 ≡ i / suc n = omega arith in
    let second : i % suc n + 1 - 1 ≡ i % suc n = omega arith in (
      (i / suc n + 1, i % suc n + 1),
      (
        record { from = record { low = omega arith; high = omega arith }; to = record { low = omega arith; high = omega arith } },
        sym (ap (λ r. r * suc n + (i % suc n + 1 - 1)) first ∙ (ap (λ s. i / suc n * suc n + s) second ∙ div-add-mod' i (suc n))),
      ),
    )

module _ {X : Type 0} (g : ℕ × ℕ → X) (n : ℕ) where
  abbrev pub grid : List X
  grid = flat_map (λ from. map (λ to. g (from, to)) (range_with_len 1 n)) (range_with_len 1 n)

  pub grid_length : length grid ≡ n * n
  grid_length = rows_length (λ from to. g (from, to)) n (range_with_len 1 n) ∙ ap (λ l. l * n) (length-range_with_len 1 n)

  -- the cell of a pair
  pub grid_at : (pair : ℕ × ℕ) (d : X) → AreProcesses n pair → get_or grid (pair_place n pair) d ≡ g pair
  grid_at pair d good =
      cell_at (λ from to. g (from, to)) n (pair.0 - 1) (pair.1 - 1) d (omega arith) (omega arith)
      ∙ (ap (λ from. g (from, 1 + (pair.1 - 1))) (omega arith) ∙ ap (λ to. g (pair.0, to)) (omega arith))

  -- cells that hold each pair's are all of them
  pub grid_whole : (d : X) (cells : List X) → length cells ≡ n * n
      → ((pair : ℕ × ℕ) → AreProcesses n pair → get_or cells (pair_place n pair) d ≡ g pair) → cells ≡ grid
  grid_whole d cells full held =
      ext_get_or d cells grid (full ∙ sym grid_length)
      (λ i lt.
      let here = some_pair n i (subst (λ m. i < m) full lt) in
      ap (λ j. get_or cells j d) here.1.1
      ∙ (held here.0 here.1.0 ∙ (sym (grid_at here.0 d here.1.0) ∙ ap (λ j. get_or grid j d) (sym here.1.1))))
