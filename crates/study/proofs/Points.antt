-- Combinations, and the runs of a point, counted and picked by their numbers.
use Rattle.study.proofs.Basics.{◌≡◌, ℕ, zero, suc, ◌+◌, ◌*◌, ◌/◌, ◌%◌, ◌≤◌, ◌<◌, min, List, [], ◌∷◌, ◌++◌, length, vec_len, length-append, map, get_or, take, drop, refl, sym, ◌∙◌, ap, inl, inr, arith, ◌≢◌, cond, ◌==◌, ◌-◌, ◌^◌, Bool, Option, Some, None, if◌then◌else◌, Vec, suc-mul, zero-mul, zero-add, one-le-mul, mul-div_cancel_left, div-lt_iff_lt-mul, mod-lt, mul_assoc, le-mul_of_pos_right, mul-le-mul_right, mod-eq_of_lt, mul-add-mod_self_right, cases_lt, cases_Bool, eqb-true, eqb-false, ltb-true, ltb-false, div-add-mod', length-map, length-take-le, get_or-map, drop_more, map-append, combinations, Path, Given, Chosen, choices, path_of, settings_in, set_to, paths_of, GridRecord, RunRecord, runs, runs_with, dealt_to, HaveOwnSeeds, AreDealtEvenly, Refusal, uneven, told, deal_refusal, Setting, length-map-range_with_len, get_or-map-range_with_len, sum_by-map-range_with_len_more, ltb}
use Rattle.{std.specs.List.{All, flat_map, count_by, range_with_len}, std.proofs.lemmas.List.Concat.{get_or-flat_map}}
use Rattle.study.specs.declared.axis.Axis.{Axis}

module _ {X Y : Type 0} (f : X → List Y) (n : ℕ) (wide : (x : X) → length (f x) ≡ n) where
  pub pieces_length : (xs : List X) → length (flat_map f xs) ≡ length xs * n
  pieces_length [] = sym (zero-mul n)
  pieces_length (x ∷ xs) = omega (arith, wide x, pieces_length xs, suc-mul (length xs) n, length-append (f x) (flat_map f xs))

  -- the r-th of the d-th piece
  pub piece_at : (xs : List X) (d r : ℕ) (x : X) (y : Y) → d < length xs → r < n
      → get_or (flat_map f xs) (d * n + r) y ≡ get_or (f (get_or xs d x)) r y
  piece_at xs d r x y within inside =
      let before : length (flat_map f (take d xs)) ≡ d * n =
      pieces_length (take d xs) ∙ ap (λ k. k * n) (length-take-le d xs (omega arith)) in
      ap (λ k. get_or (flat_map f xs) (k + r) y) (sym before)
      ∙ get_or-flat_map f xs d r x y within (omega (arith, wide (get_or xs d x)))

module _ {X : Type 0} (xs : List (List X)) (rest : List (List (List X))) where
  abbrev with_first : List X → List (List X)
  with_first x = map (λ others. x ++ others) (combinations rest)

  wide : (x : List X) → length (with_first x) ≡ length (combinations rest)
  wide x = length-map (combinations rest) (λ others. x ++ others)

  -- one more list
  more_combinations : length (combinations (xs ∷ rest)) ≡ length xs * length (combinations rest)
  more_combinations = pieces_length with_first (length (combinations rest)) wide xs

  -- the combination of a number, by its first choice and the rest
  combination_at : (d r : ℕ) (x : List X) → d < length xs → r < length (combinations rest)
      → get_or (combinations (xs ∷ rest)) (d * length (combinations rest) + r) []
      ≡ get_or xs d x ++ get_or (combinations rest) r []
  combination_at d r x within inside =
      piece_at with_first (length (combinations rest)) wide xs d r x [] within inside
      ∙ get_or-map (λ others. get_or xs d x ++ others) (combinations rest) r [] [] inside

-- all combinations of the axes' choices
abbrev pub ways : List Axis → List (List Chosen)
ways axes = combinations (map choices axes)

abbrev choice_of : Axis → Vec Setting → List Chosen
choice_of a v = set_to (map path_of a.keys.items) (settings_in v)

choices-length : (a : Axis) → length (choices a) ≡ vec_len a.values
choices-length a = length-map a.values.items (choice_of a) ∙ sym a.values.ok.0

pub axis_some : (a : Axis) → 1 ≤ vec_len a.values
axis_some a = omega (arith, a.some, a.values.ok.0)

pub some_ways : (axes : List Axis) → 1 ≤ length (ways axes)
some_ways [] = omega arith
some_ways (a ∷ axes) =
    let some : 1 ≤ length (choices a) = omega (arith, choices-length a, axis_some a) in
    omega (arith, more_combinations (choices a) (map choices axes), one-le-mul some (some_ways axes))

-- ---- the axes from one on

module _ (axes : List Axis) (i : ℕ) (a : Axis) (within : i < length axes) (is : a ≡ get_or axes i a) where
  from_one : drop i axes ≡ a ∷ drop (i + 1) axes
  from_one = drop_more axes i a within ∙ ap (λ b. b ∷ drop (i + 1) axes) (sym is)

  pub length_from : length (ways (drop i axes)) ≡ vec_len a.values * length (ways (drop (i + 1) axes))
  length_from =
      ap (λ xs. length (ways xs)) from_one ∙ (more_combinations (choices a) (map choices (drop (i + 1) axes))
      ∙ ap (λ n. n * length (ways (drop (i + 1) axes))) (choices-length a))

  -- how many begin with one value of the axis
  pub block_from : (alike n : ℕ) → n ≡ vec_len a.values → alike ≡ length (ways (drop i axes))
      → alike / n ≡ length (ways (drop (i + 1) axes))
  block_from alike n values all =
      ap (λ k. k / n) (all ∙ length_from) ∙ (ap (λ k. vec_len a.values * length (ways (drop (i + 1) axes)) / k) values
      ∙ mul-div_cancel_left (length (ways (drop (i + 1) axes))) (omega (arith, axis_some a)))

  pub place_within : (left : ℕ) → left < length (ways (drop i axes)) → left / length (ways (drop (i + 1) axes)) < vec_len a.values
  place_within left inside =
      let some : 0 < length (ways (drop (i + 1) axes)) = omega (arith, some_ways (drop (i + 1) axes)) in
      (div-lt_iff_lt-mul {k = length (ways (drop (i + 1) axes))} {x = left} {y = vec_len a.values} some).1
      (omega (arith, length_from))

  -- one more choice is picked
  pub picked_more : (left : ℕ) (v : Vec Setting) → left < length (ways (drop i axes))
      → v ≡ get_or a.values.items (left / length (ways (drop (i + 1) axes))) v → get_or (ways (drop i axes)) left []
      ≡ choice_of a v ++ get_or (ways (drop (i + 1) axes)) (left % length (ways (drop (i + 1) axes))) []
  picked_more left v inside read =
      let n = length (ways (drop (i + 1) axes)) in
      let place = place_within left inside in
      ap (λ xs. get_or (ways xs) left []) from_one
      ∙ (ap (λ k. get_or (ways (a ∷ drop (i + 1) axes)) k []) (sym (div-add-mod' left n))
      ∙ (combination_at (choices a) (map choices (drop (i + 1) axes)) (left / n) (left % n) (choice_of a v)
      (omega (arith, place, choices-length a)) (mod-lt left (omega (arith, some_ways (drop (i + 1) axes))))
      ∙ ap (λ x. x ++ get_or (ways (drop (i + 1) axes)) (left % n) [])
      (get_or-map (choice_of a) a.values.items (left / n) v (choice_of a v) (omega (arith, place, a.values.ok.0))
      ∙ ap (choice_of a) (sym read))))

-- ---- counts that stay at a greatest number

capped : (m a b : ℕ) → 1 ≤ b → min (min a m * b) m ≡ min (a * b) m
capped m a b some = elim (cases_lt m a) [
  | inl high ↦
      let least : min a m ≡ m = omega arith in
      let left : m ≤ m * b = le-mul_of_pos_right m (omega arith) in
      let right : m * b ≤ a * b = mul-le-mul_right b (omega arith) in
      let both : min (m * b) m ≡ min (a * b) m = omega arith in
      ap (λ n. min (n * b) m) least ∙ both
  | inr low ↦
      let least : min a m ≡ a = omega arith in
      ap (λ n. min (n * b) m) least
]

-- one more axis is counted
pub counted : (m count n rest from whole : ℕ) → min (count * from) m ≡ whole → from ≡ n * rest → 1 ≤ rest
    → min (min (count * n) m * rest) m ≡ whole
counted m count n rest from whole is e some =
    capped m (count * n) rest some ∙ (ap (λ k. min k m) (mul_assoc count n rest ∙ ap (λ k. count * k) (sym e)) ∙ is)

-- ---- keys with their settings

pub paths_set : (ps : List Path) (gs : List Given) → length gs ≡ length ps → map (λ c. c.path) (set_to ps gs) ≡ ps
paths_set [] gs same = refl
paths_set (p ∷ ps) [] same = absurd (omega arith)
paths_set (p ∷ ps) (g ∷ gs) same = ap (λ qs. p ∷ qs) (paths_set ps gs (omega arith))

pub none_set : (ps : List Path) (gs : List Given) → min (length ps) (length gs) ≡ 0 → set_to ps gs ≡ []
none_set [] gs none = refl
none_set (p ∷ ps) [] none = refl
none_set (p ∷ ps) (g ∷ gs) none = absurd (omega arith)

-- the keys of the first choice, and of the first combination
first_paths : (ps : List Path) (n : ℕ) (vs : List (Vec Setting)) → length ps ≡ n → 1 ≤ length vs
    → All (λ v. length v.items ≡ n) vs → map (λ c. c.path) (get_or (map (λ v. set_to ps (settings_in v)) vs) 0 []) ≡ ps
first_paths ps n [] long some matched = absurd (omega arith)
first_paths ps n (v ∷ vs) long some matched =
    let here : length v.items ≡ n = matched 0 v (omega arith) in
    let same : length (settings_in v) ≡ length v.items = length-map v.items _ in
    paths_set ps (settings_in v) (omega arith)

pub first_keys : (axes : List Axis) → map (λ c. c.path) (get_or (ways axes) 0 []) ≡ paths_of axes
first_keys [] = refl
first_keys (a ∷ axes) =
    let within : 0 < length (choices a) = omega (arith, choices-length a, axis_some a) in
    let at = combination_at (choices a) (map choices axes) 0 0 [] within (some_ways axes) in
    let place : 0 ≡ 0 * length (ways axes) + 0 = simp (zero-mul, zero-add) in
    ap (λ k. map (λ c. c.path) (get_or (ways (a ∷ axes)) k [])) place ∙ (ap (λ cs. map (λ c. c.path) cs) at
    ∙ (map-append (λ c. c.path) (get_or (choices a) 0 []) (get_or (ways axes) 0 [])
    ∙ (ap (λ ps. ps ++ map (λ c. c.path) (get_or (ways axes) 0 []))
    (first_paths (map path_of a.keys.items) (length a.keys.items) a.values.items (length-map a.keys.items path_of)
    a.some a.matched) ∙ ap (λ ps. map path_of a.keys.items ++ ps) (first_keys axes))))

-- ---- runs

-- a grid of these axes and seeds
abbrev pub shown : (vary over deal : List Axis) (first seeds : ℕ) → GridRecord
shown vary over deal first seeds =
    record { vary = map choices vary; over = map choices over; deal = map choices deal; first_seed = first; seeds = seeds }

abbrev run_with : GridRecord → List Chosen → ℕ → RunRecord
run_with g settings k = record { settings = settings ++ dealt_to g k; seed = g.first_seed + k }

all_seeds : (g : GridRecord) (settings : List Chosen) → length (runs_with g settings) ≡ g.seeds
all_seeds g settings = length-map-range_with_len (run_with g settings) 0 g.seeds

pub runs_length : (g : GridRecord) → length (runs g) ≡ length (combinations g.over) * g.seeds
runs_length g = pieces_length (runs_with g) g.seeds (all_seeds g) (combinations g.over)

-- the combination and the seed of a run
pub mix_within : (g : GridRecord) (number : ℕ) → 1 ≤ g.seeds → number < length (runs g)
    → number / g.seeds < length (combinations g.over)
mix_within g number some within =
    (div-lt_iff_lt-mul {k = g.seeds} {x = number} {y = length (combinations g.over)} some).1 (omega (arith, runs_length g))

run_at : (g : GridRecord) (number : ℕ) (e : RunRecord) → 1 ≤ g.seeds → number < length (runs g)
    → get_or (runs g) number e ≡ run_with g (get_or (combinations g.over) (number / g.seeds) []) (number % g.seeds)
run_at g number e some within =
    let after : number % g.seeds < g.seeds = mod-lt number some in
    ap (λ k. get_or (runs g) k e) (sym (div-add-mod' number g.seeds))
    ∙ (piece_at (runs_with g) g.seeds (all_seeds g) (combinations g.over) (number / g.seeds) (number % g.seeds) [] e
    (mix_within g number some within) after
    ∙ get_or-map-range_with_len (run_with g (get_or (combinations g.over) (number / g.seeds) [])) 0 g.seeds (number % g.seeds)
    (number % g.seeds) e after (zero-add (number % g.seeds)))

abbrev pub made : List Chosen → ℕ → RunRecord
made settings seed = record { settings = settings; seed = seed }

pub run_is : (g : GridRecord) (number deals : ℕ) (settings : List Chosen) → 1 ≤ g.seeds → number < length (runs g)
    → deals ≡ length (combinations g.deal)
    → settings ≡ get_or (combinations g.over) (number / g.seeds) [] ++ get_or (combinations g.deal) (number % g.seeds % deals) []
    → made settings (g.first_seed + number % g.seeds) ≡ get_or (runs g) number (made settings (g.first_seed + number % g.seeds))
run_is g number deals settings some within all are =
    let mix = get_or (combinations g.over) (number / g.seeds) [] in
    let seed = g.first_seed + number % g.seeds in
    ap (λ s. made s seed) (are ∙ ap (λ n. mix ++ get_or (combinations g.deal) (number % g.seeds % n) []) all)
    ∙ sym (run_at g number (made settings seed) some within)

-- ---- what dealing gives

seed_at : (g : GridRecord) (i : ℕ) (a : RunRecord) → 1 ≤ g.seeds → g.over ≡ [] → i < length (runs g)
    → (get_or (runs g) i a).seed ≡ g.first_seed + i
seed_at g i a some none within =
    let all : length (combinations g.over) * g.seeds ≡ 1 * g.seeds = ap (λ o. length (combinations o) * g.seeds) none in
    ap (λ r. r.seed) (run_at g i a some within)
    ∙ ap (λ n. g.first_seed + n) (mod-eq_of_lt (omega (arith, runs_length g)))

pub own_seeds : (g : GridRecord) → 1 ≤ g.seeds → g.over ≡ [] → HaveOwnSeeds (runs g)
own_seeds g some none i j a b within_i within_j same =
    omega (arith, seed_at g i a some none within_i, seed_at g j b some none within_j)

module _ (d c : ℕ) (within : c < d) where
  -- how often the turn comes to c in the first n turns of d
  abbrev times : ℕ → ℕ
  times n = count_by (λ t. t == c) (map (λ k. k % d) (range_with_len 0 n))

  next : (n : ℕ) → times (n + 1) ≡ times n + cond (n % d == c) 1 0
  next n = sum_by-map-range_with_len_more (λ t. cond (t == c) 1 0) (λ k. k % d) 0 n n (zero-add n)

  -- in a round of d turns once
  in_round : (q r : ℕ) → r ≤ d → times (q * d) ≡ q
      → (r ≤ c → times (q * d + r) ≡ q) × (c < r → times (q * d + r) ≡ q + 1)
  in_round q zero le so_far =
      let same : q * d + 0 ≡ q * d = omega arith in
      (λ _. ap times same ∙ so_far, λ lt. absurd (omega arith))
  in_round q (suc r) le so_far =
      let before = in_round q r (omega arith) so_far in
      let place : q * d + suc r ≡ q * d + r + 1 = omega arith in
      let rest : (q * d + r) % d ≡ r = mul-add-mod_self_right q d r ∙ mod-eq_of_lt (omega arith) in
      let step : times (q * d + suc r) ≡ times (q * d + r) + cond (r == c) 1 0 =
      ap times place ∙ (next (q * d + r) ∙ ap (λ k. times (q * d + r) + cond (k == c) 1 0) rest) in
      elim (cases_Bool (r == c)) [
        | inl same ↦
            let is : r ≡ c = eqb-true r c same in (
              λ less. absurd (omega arith),
              λ more. step ∙ (ap (λ b. times (q * d + r) + cond b 1 0) same ∙ omega (arith, before.0 (omega arith))),
            )
        | inr differs ↦
            let other : r ≢ c = eqb-false r c differs in
            let none : times (q * d + suc r) ≡ times (q * d + r) + 0 = step ∙ ap (λ b. times (q * d + r) + cond b 1 0) differs in
            (λ less. omega (arith, before.0 (omega arith)), λ more. omega (arith, before.1 (omega arith)))
      ]

  rounds : (q : ℕ) → times (q * d) ≡ q
  rounds zero = ap times (zero-mul d)
  rounds (suc q) = ap times (suc-mul q d) ∙ ((in_round q d (omega arith) (rounds q)).1 within ∙ omega arith)

  evenly : (n : ℕ) → n % d ≡ 0 → times n * d ≡ n
  evenly n even =
      let cut : n ≡ n / d * d = omega (arith, div-add-mod' n d) in
      ap (λ t. t * d) (ap times cut ∙ rounds (n / d)) ∙ sym cut

pub dealt_evenly : (g : GridRecord) → g.seeds % length (combinations g.deal) ≡ 0 → AreDealtEvenly g
dealt_evenly g even c within = evenly (length (combinations g.deal)) c within g.seeds even

-- ---- seeds that can't be dealt evenly

told_rest : (seeds n : ℕ) → seeds < 2 ^ 64 - 1 → seeds % told n ≡ seeds % n
told_rest seeds n small = elim (cases_Bool (ltb (2 ^ 64 - 1) n)) [
  | inl high ↦
      let over : 2 ^ 64 - 1 < n = ltb-true (2 ^ 64 - 1) n high in
      let least : told n ≡ 2 ^ 64 - 1 = omega arith in
      ap (λ m. seeds % m) least ∙ (mod-eq_of_lt small ∙ sym (mod-eq_of_lt (omega arith)))
  | inr low ↦
      let below : n ≤ 2 ^ 64 - 1 = ltb-false (2 ^ 64 - 1) n low in
      let least : told n ≡ n = omega arith in
      ap (λ m. seeds % m) least
]

pub uneven_deal : (seeds n dealt : ℕ) → seeds < 2 ^ 64 - 1 → dealt ≡ told n → (seeds % dealt ≡ 0 → ⊥)
    → deal_refusal seeds n ≡ Some (uneven seeds dealt)
uneven_deal seeds n dealt small is odd =
    let P : Bool → Option Refusal = λ b. if b then None else Some (uneven seeds (told n)) in
    let same : seeds % dealt ≡ seeds % n = ap (λ m. seeds % m) is ∙ told_rest seeds n small in
    elim (cases_Bool (seeds % n == 0)) [
      | inl even ↦ absurd (odd (same ∙ eqb-true (seeds % n) 0 even))
      | inr not_even ↦ ap P not_even ∙ ap (λ m. Some (uneven seeds m)) (sym is)
    ]
