-- Multiples of a period, and of what a time-out grows by.
use Rattle.detector_bounds.proofs.Words.{◌≡◌, ℕ, ◌+◌, ◌-◌, ◌*◌, ◌<◌, ◌≤◌, add-one, ap, ◌∙◌, arith, mul-le-mul_right, mod_below, div-add-mod', last_before, multiple_from}
use Rattle.std.proofs.Math.Nat.{suc-mul, le-mul_of_pos_right, lt_of_mul-lt-mul_right, div-mul-le_self}

pub mul-next : (n m : ℕ) → (n + 1) * m ≡ n * m + m
mul-next n m = ap (λ k. k * m) (add-one n) ∙ suc-mul n m

pub le-mul : (n m : ℕ) → 1 ≤ m → n ≤ n * m
le-mul n m low = le-mul_of_pos_right n (omega (arith, low))

-- of two multiples of one period, the number of the lesser is less, and the greater is a period later at least
pub less_multiple : (n m period : ℕ) → n * period < m * period → n < m
less_multiple n m period h = lt_of_mul-lt-mul_right period h

pub multiple_after : (n m period : ℕ) → n * period < m * period → n * period + period ≤ m * period
multiple_after n m period h =
    let less : n < m = less_multiple n m period h in
    let up : (n + 1) * period ≤ m * period = mul-le-mul_right period (omega (arith, less)) in
    omega (arith, up, mul-next n period)

-- growth
pub more_grown : (grow count here : ℕ) → 1 ≤ here → grow * count + grow ≤ grow * (count + here)
more_grown grow count here h = grind (arith, h)

pub fewer_grown : (grow a b : ℕ) → a ≤ b → grow * a ≤ grow * b
fewer_grown grow a b h = grind (arith, h)

module _ (period tick : ℕ) (low : 1 ≤ period) where
  -- the next multiple isn't before the tick, and the last one is, unless it is the first of all
  pub after_last : tick ≤ (last_before period tick + 1) * period
  after_last = omega (arith, div-add-mod' (tick - 1) period, mod_below (tick - 1) period (omega (arith, low)), mul-next (last_before period tick) period)

  pub last_is_before : last_before period tick * period ≤ tick - 1
  last_is_before = div-mul-le_self (tick - 1) period

  -- and each multiple before the tick is at most that one
  pub at_most_last : (j : ℕ) → j * period < tick → j * period ≤ last_before period tick * period
  at_most_last j before =
      let less : j < last_before period tick + 1 = less_multiple j (last_before period tick + 1) period (omega (arith, before, after_last)) in
      mul-le-mul_right period (omega (arith, less))

  pub from_tick : tick ≤ multiple_from period tick
  from_tick = omega (arith, div-add-mod' (tick + (period - 1)) period, mod_below (tick + (period - 1)) period (omega (arith, low)), low)

  pub soon_from : multiple_from period tick ≤ tick + (period - 1)
  soon_from = div-mul-le_self (tick + (period - 1)) period
