-- The odds of a geometric number's digits, and what its digits say.
use Rattle.network.proofs.Basics.{◌≡◌, ℕ, ◌+◌, ◌-◌, ◌*◌, ◌/◌, ◌^◌, ◌<◌, ◌≤◌, refl, ap, add-one, if◌then◌else◌, arith, div-lt_iff_lt-mul, mul-le-mul_right, Words, digits, geometric, is_one, odds}

pub odds-zero : (mean : ℕ) → 2 ^ 32 * (mean - 1) / mean ≡ odds mean 0
unfolding odds
odds-zero mean = refl

pub odds-more : (mean i : ℕ) → odds mean (i + 1) ≡ odds mean i * odds mean i / 2 ^ 32
unfolding odds
odds-more mean i = ap (odds mean) (add-one i)

pub digits-zero : (mean : ℕ) (words : Words) → 0 ≡ digits mean words 0
unfolding digits
digits-zero mean words = refl

pub digits-more : (mean : ℕ) (words : Words) (i : ℕ)
    → digits mean words (i + 1) ≡ digits mean words i + (if is_one (odds mean i) (words i) then 2 ^ i else 0)
unfolding digits
digits-more mean words i = ap (digits mean words) (add-one i)

-- the odds are below all
pub first_low : (mean : ℕ) → 1 ≤ mean → 2 ^ 32 * (mean - 1) / mean < 2 ^ 32
first_low mean some = (div-lt_iff_lt-mul {k = mean} {x = 2 ^ 32 * (mean - 1)} {y = 2 ^ 32} (omega arith)).1 (omega arith)

pub next_low : (its : ℕ) → its < 2 ^ 32 → its * its / 2 ^ 32 < 2 ^ 32
next_low its low =
    let square : its * its ≤ 2 ^ 32 * its = mul-le-mul_right its (omega arith) in
    (div-lt_iff_lt-mul {k = 2 ^ 32} {x = its * its} {y = 2 ^ 32} (omega arith)).1 (omega arith)

pub geometric-is : (mean : ℕ) (words : Words) (drawn : ℕ) → drawn ≡ digits mean words 28 → 1 + drawn ≡ geometric mean words
unfolding geometric
geometric-is mean words drawn is = ap (λ n. 1 + n) is
