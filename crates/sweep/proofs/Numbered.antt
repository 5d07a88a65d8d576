-- A run's number, its point and its place there, and its unit.
use Rattle.sweep.proofs.Words.{◌≡◌, ℕ, zero, suc, ◌+◌, ◌*◌, ◌/◌, ◌%◌, ◌<◌, ◌≤◌, arith, refl, subst, length, lt_of_mul-lt-mul_right, mul-le-mul_right, mod-mul-add, div-add-mod', GridRecord, runs, runs_each, unit_count, unit_point, unit_runs, Rows}
use Rattle.sweep.specs.declared.layout.Rows.TheVariants as kind

-- two numbers with one remainder
quotients : (a b r w : ℕ) → 0 < w → a * w + r ≡ b * w + r → a ≡ b
quotients a b r w pos is =
    let up : a < b + 1 = lt_of_mul-lt-mul_right w {m = a} {n = b + 1} (omega (arith, is, pos)) in
    let down : b < a + 1 = lt_of_mul-lt-mul_right w {m = b} {n = a + 1} (omega (arith, is, pos)) in
    omega (arith, up, down)

module _ (point run runs number : ℕ) (low : run < runs) (is : point * runs + run ≡ number) where
  pub run_is : number % runs ≡ run
  run_is = let P : ℕ → Type 0 = λ n. n % runs ≡ run in subst P is (mod-mul-add point runs run low)

  pub point_is : number / runs ≡ point
  point_is =
      let split : number / runs * runs + number % runs ≡ number = div-add-mod' number runs in
      quotients (number / runs) point run runs (omega (arith, low)) (omega (arith, split, run_is, is))

  -- a number below the end of a point's runs is one of the points before
  pub point_below : (end : ℕ) → number < end * runs → point < end
  point_below end lt = lt_of_mul-lt-mul_right runs {m = point} {n = end} (omega (arith, is, lt))

  pub point_at_end : (end : ℕ) → number ≡ end * runs → point ≡ end
  point_at_end end eq =
      let up : point < end + 1 = lt_of_mul-lt-mul_right runs {m = point} {n = end + 1} (omega (arith, is, eq, low)) in
      let down : end < point + 1 = lt_of_mul-lt-mul_right runs {m = end} {n = point + 1} (omega (arith, is, eq, low)) in
      omega (arith, up, down)

pub number_below : (runs number points : ℕ) → 0 < runs → number < points * runs → number / runs < points
number_below runs number points pos lt =
    let split : number / runs * runs + number % runs ≡ number = div-add-mod' number runs in
    lt_of_mul-lt-mul_right runs {m = number / runs} {n = points} (omega (arith, split, lt))

-- ---- units

positive : (a b c : ℕ) → a < b * c → 0 < c
positive a b zero lt = absurd (omega (arith, lt))
positive a b (suc c) lt = omega arith

module _ (rows : Rows) (g : GridRecord) where
  pub runs_length : (unit : ℕ) → length (unit_runs rows g unit) ≡ runs_each rows g
  runs_length unit = by rows
    where
      by : (k : Rows) → length (unit_runs k g unit) ≡ runs_each k g
      by kind.Points = refl
      by kind.Runs = refl

  pub some_each : 1 ≤ length (runs g) → 1 ≤ runs_each rows g
  some_each some = by rows
    where
      by : (k : Rows) → 1 ≤ runs_each k g
      by kind.Points = some
      by kind.Runs = omega arith

  -- so many points' runs
  pub count_each : (n : ℕ) → unit_count rows g n * runs_each rows g ≡ n * length (runs g)
  count_each n = by rows
    where
      by : (k : Rows) → unit_count k g n * runs_each k g ≡ n * length (runs g)
      by kind.Points = refl
      by kind.Runs = omega arith

  pub count_order : (a b : ℕ) → a ≤ b → unit_count rows g a ≤ unit_count rows g b
  count_order a b le = by rows
    where
      by : (k : Rows) → unit_count k g a ≤ unit_count k g b
      by kind.Points = le
      by kind.Runs = mul-le-mul_right {m = a} {n = b} (length (runs g)) le

  -- a run's number is below that of the end of all points, and so are its unit's point, and its unit
  pub unit_below : (unit run points : ℕ) → run < runs_each rows g → unit * runs_each rows g + run < points * length (runs g)
      → unit_point rows g unit < points
  unit_below unit run points = by rows
    where
      by : (k : Rows) → run < runs_each k g → unit * runs_each k g + run < points * length (runs g) → unit_point k g unit < points
      by kind.Points low lt = lt_of_mul-lt-mul_right (length (runs g)) {m = unit} {n = points} (omega (arith, lt))
      by kind.Runs low lt = number_below (length (runs g)) unit points (positive unit points (length (runs g)) (omega (arith, lt))) (omega (arith, lt))
