use Rattle.sweep.proofs.Words.{◌≡◌, ℕ, ◌+◌, ◌-◌, ◌*◌, ◌/◌, ◌%◌, ◌<◌, ◌≤◌, Bool, true, false, Some, None, ⊎_elim, zero-add, cond, nat_le, nat_lt, get_or, ap, ◌∙◌, sym, subst, refl, rules, arith, position, position_or_len, range_with_len, cases_lt, le-ltb, lt-leb, lt-ltb, get_or-range_with_len, length-range_with_len, mod_below, div-add-mod', mul-le-mul_left, position_or_len_is, reaches, standard_error}
use Rattle.{std.proofs.lemmas.Bool.{le-leb}, std.specs.Int.{from_bool}}
use Rattle.sweep.proofs.standard_error.standard_error.Goals as goal

-- of n + 1 numbers, whose sum is S and whose squares add up to Q, q is the mean and r the rest
module _ (n q r S Q D : ℕ) (sum_is : S ≡ (n + 1) * q + r) (spread_is : D ≡ Q - q * S - q * r) where
  square_sum : S * S ≡ (n + 1) * (q * S) + (n + 1) * (q * r) + r * r
  square_sum = subst (λ s. s * s ≡ (n + 1) * (q * s) + (n + 1) * (q * r) + r * r) (sym sum_is) (omega arith)

  -- where they are not below these products, what is left of Q is D
  parts : q * S + q * r ≤ Q → (n + 1) * Q ≡ (n + 1) * D + (n + 1) * (q * S) + (n + 1) * (q * r)
  parts more =
      let whole : Q ≡ D + q * S + q * r = omega (arith, spread_is, more) in
      omega (arith, ap (λ t. (n + 1) * t) whole)

  none_left : Q < q * S + q * r → D ≡ 0
  none_left less = omega (arith, spread_is, less)

  by_spread : (x : ℕ) → (n + 1) * Q ≤ x * n + S * S → (n + 1) * D ≤ x * n + r * r
  by_spread x h = ⊎_elim
      (λ less. omega (arith, ap (λ t. (n + 1) * t) (none_left less)))
      (λ more. omega (arith, h, square_sum, parts more))
      (cases_lt Q (q * S + q * r))

  by_squares : (x : ℕ) → (n + 1) * D ≤ x * n + r * r → (n + 1) * Q ≤ x * n + S * S
  by_squares x h = ⊎_elim
      (λ less.
      let low : Q ≤ q * S + q * r = omega (arith, less) in
      omega (arith, square_sum, mul-le-mul_left (n + 1) low))
      (λ more. omega (arith, h, square_sum, parts more))
      (cases_lt Q (q * S + q * r))

flag_one : (b : Bool) → b ≡ true → cond {A = ℕ} b 1 0 ≡ 1
flag_one b e = ap (λ t. cond {A = ℕ} t 1 0) e

flag_is : (b : Bool) → from_bool b ≡ cond {A = ℕ} b 1 0
flag_is true = refl
flag_is false = refl

flag_none : (b : Bool) → b ≡ false → cond {A = ℕ} b 1 0 ≡ 0
flag_none b e = ap (λ t. cond {A = ℕ} t 1 0) e

-- the same by quotients
module _ (n D s x c d a b : ℕ) (many : D ≡ n * c + d) (low : d < n) (square : s ≡ n * a + b) (rest : b < n) where
  too_few : (n + 1) * D ≤ x * n + s → x + a ≤ D + c → b < d → ⊥
  too_few h up above = omega (arith, h, many, low, square, rest, above, mul-le-mul_left n up)

  far_too_few : (n + 1) * D ≤ x * n + s → x + a + 1 ≤ D + c → ⊥
  far_too_few h up = omega (arith, h, many, low, square, rest, mul-le-mul_left n up)

  enough : D + c ≤ x + a → d ≤ b → (n + 1) * D ≤ x * n + s
  enough h within = omega (arith, many, low, square, rest, within, mul-le-mul_left n h)

  more_than_enough : D + c + 1 ≤ x + a → (n + 1) * D ≤ x * n + s
  more_than_enough h = omega (arith, many, low, square, rest, mul-le-mul_left n h)

  over_rest : (f : ℕ) → f ≡ cond (nat_lt b d) 1 0 → (n + 1) * D ≤ x * n + s → D + (c + f) ≤ x + a
  over_rest f flag h = ⊎_elim
      (λ above.
      let one : f ≡ 1 = flag ∙ flag_one _ (lt-ltb b d above) in
      ⊎_elim (λ up. absurd (too_few h (omega (arith, up, one)) above)) (λ down. down) (cases_lt (x + a) (D + (c + f))))
      (λ within.
      let none : f ≡ 0 = flag ∙ flag_none _ (le-ltb b d within) in
      ⊎_elim (λ up. absurd (far_too_few h (omega (arith, up, none)))) (λ down. down) (cases_lt (x + a) (D + (c + f))))
      (cases_lt b d)

  under_rest : (f : ℕ) → f ≡ cond (nat_lt b d) 1 0 → D + (c + f) ≤ x + a → (n + 1) * D ≤ x * n + s
  under_rest f flag h = ⊎_elim
      (λ above.
      let one : f ≡ 1 = flag ∙ flag_one _ (lt-ltb b d above) in
      more_than_enough (omega (arith, h, one)))
      (λ within. enough (omega (arith, h)) within)
      (cases_lt b d)

square_above : (m : ℕ) → m ≤ m * m
square_above m = ⊎_elim (λ none. omega (arith, none)) (λ some. omega (arith, mul-le-mul_left m some)) (cases_lt m 1)

-- the first number that passes
first_place : (p : ℕ → Bool) (e count : ℕ) → e < count → p e ≡ true → ((k : ℕ) → k < e → p k ≡ false)
    → position p (range_with_len 0 count) ≡ Some e
first_place p e count within passes before =
    let all = range_with_len 0 count in
    let at : (k : ℕ) → k < count → p (get_or all k 0) ≡ p k =
    λ k low. ap p (get_or-range_with_len 0 count k 0 low ∙ zero-add k) in
    let first : position_or_len p all ≡ e = position_or_len_is p all e 0 (omega (arith, within, length-range_with_len 0 count))
    (λ k low. at k (omega (arith, low, within)) ∙ before k low) (λ low. at e within ∙ passes) in
    ap (λ b. cond b (Some (position_or_len p all)) None) (lt-ltb _ _ (omega (arith, first, within, length-range_with_len 0 count))) ∙ ap Some first

-- the error of n + 1 runs
module _ (R n S Q D m : ℕ) (whole : R ≡ n + 1) (some : 0 < n) (spread_is : D ≡ Q - S / R * S - S / R * (S % R))
    (more_is : m ≡ D / n + cond (nat_lt (S % R * (S % R) % n) (D % n)) 1 0) where
  abbrev square : ℕ
  square = S % R * (S % R)

  sum_is : S ≡ (n + 1) * (S / R) + S % R
  sum_is = omega (arith, div-add-mod' S R, ap (λ t. S / R * t) whole)

  parted : (k : ℕ) → k ≡ n * (k / n) + k % n
  parted k = omega (arith, div-add-mod' k n)

  to_reach : (x : ℕ) → R * Q ≤ x * n + S * S → D + m ≤ x + square / n
  to_reach x h = rw more_is
      (over_rest n D square x (D / n) (D % n) (square / n) (square % n) (parted D) (mod_below D n some) (parted square) (mod_below square n some) _ refl
      (by_spread n (S / R) (S % R) S Q D sum_is spread_is x (omega (arith, h, ap (λ t. t * Q) whole))))

  from_reach : (x : ℕ) → D + m ≤ x + square / n → R * Q ≤ x * n + S * S
  from_reach x h =
      omega (
        arith,
        ap (λ t. t * Q) whole,
        by_squares n (S / R) (S % R) S Q D sum_is spread_is x
            (under_rest n D square x (D / n) (D % n) (square / n) (square % n) (parted D) (mod_below D n some) (parted square) (mod_below square n some) _ refl
            (omega (arith, h, more_is))),
      )

  within_all : R * Q ≤ R * Q * (R * Q) * n + S * S
  within_all = omega (arith, square_above (R * Q), mul-le-mul_left (R * Q * (R * Q)) some)

  not_yet : (e : ℕ) → ((x : ℕ) → D + m ≤ x * x + square / n → e ≤ x) → (k : ℕ) → k < e → k * k * n + S * S < R * Q
  not_yet e least k below = ⊎_elim (λ short. short)
      (λ reached. absurd (omega (arith, below, least k (to_reach (k * k) reached))))
      (cases_lt (k * k * n + S * S) (R * Q))

  error_is : (e : ℕ) → D + m ≤ e * e + square / n → ((x : ℕ) → D + m ≤ x * x + square / n → e ≤ x)
      → Some e ≡ standard_error R S Q
  unfolding standard_error
  error_is e enough least =
      let others : R - 1 ≡ n = omega (arith, whole) in
      let at : (x : ℕ) → reaches R S Q x ≡ nat_le (R * Q) (x * x * n + S * S) = λ x. ap (λ t. nat_le (R * Q) (x * x * t + S * S)) others in
      let low : e < R * Q + 1 = omega (arith, least (R * Q) (to_reach (R * Q * (R * Q)) within_all)) in
      sym (ap (λ b. cond b None (position (reaches R S Q) (range_with_len 0 (R * Q + 1)))) (le-ltb R 2 (omega (arith, whole, some)))
      ∙ first_place (reaches R S Q) e (R * Q + 1) low (at e ∙ le-leb _ _ (from_reach (e * e) enough))
      (λ k below. at k ∙ lt-leb _ _ (not_yet e least k below)))

pub returns-then-runs-lt2 : goal.returns-then-runs-lt2
unfolding standard_error
returns-then-runs-lt2 c = search rules

pub returns : goal.returns
returns c =
    let runs = c.from-runs.result in
    let others = c.from-others.result in
    let sum = c.args.sum in
    let squares = c.args.squares in
    let spread = c.saturating_sub-spread.result in
    let more : ℕ = spread / others + c.from.result in
    let whole : runs ≡ others + 1 = omega (arith, c.from-runs.ensures, c.from-others.ensures, c.if-runs-lt2.false) in
    let some : 0 < others = omega (arith, c.from-others.ensures, c.if-runs-lt2.false) in
    let spread_is : spread ≡ squares - sum / runs * sum - sum / runs * (sum % runs) = omega (arith, c.saturating_mul.ensures, c.saturating_sub.ensures, c.saturating_mul-2.ensures, c.saturating_sub-spread.ensures) in
    subst (λ n. Some c.root_over.result ≡ standard_error n sum squares) c.from-runs.ensures
    (error_is runs others sum squares spread more whole some spread_is (ap (λ f. spread / others + f) (c.from.ensures ∙ flag_is _)) c.root_over.result
    (omega (arith, c.root_over.ensures.enough, c.saturating_sub-2.ensures, c.saturating_sub-3.ensures, c.saturating_sub-4.ensures))
    (λ x h. c.root_over.ensures.least x (omega (arith, h, c.saturating_sub-2.ensures, c.saturating_sub-3.ensures, c.saturating_sub-4.ensures))))
