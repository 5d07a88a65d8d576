-- Tests of numbers, and what they say.
use Rattle.scenario.proofs.Words.{◌≡◌, ℕ, ◌≤◌, pos, nat_le, List, Bool, true, false, not, ◌&&◌, ◌||◌, Option, Some, None, refl, option_map_or, unwrap_or, leb-true, not-false, Members, number_or, natural_of, number_at, is_outside}

pub neither : (a b : Bool) → (a || b) ≡ false → (a ≡ false) × (b ≡ false)
neither true b e = cc
neither false b e = (refl, e)

pub both : (a b : Bool) → (a && b) ≡ true → (a ≡ true) × (b ≡ true)
both true b e = (refl, e)
both false b e = cc

pub within_of : (low high : ℕ) (o : Option ℕ) → not (option_map_or (λ n. nat_le low n && nat_le n high) o false) ≡ false → (low ≤ unwrap_or o 0) × (unwrap_or o 0 ≤ high)
within_of low high None e = cc
within_of low high (Some n) e =
    let tests = both (nat_le low n) (nat_le n high) (not-false (nat_le low n && nat_le n high) e) in
    (leb-true low n tests.0, leb-true n high tests.1)

pub within : (low high : ℕ) (key : List ℕ) (default : ℕ) (t : Members) → is_outside low high key default t ≡ false → (low ≤ number_at key default t) × (number_at key default t ≤ high)
unfolding is_outside number_at
within low high key default t e = within_of low high (natural_of (number_or key (pos default) t)) e

-- where neither the first number is outside nor another test holds
pub first_inside : (low high : ℕ) (key : List ℕ) (default : ℕ) (t : Members) (rest : Bool) → (is_outside low high key default t || rest) ≡ false
    → (low ≤ number_at key default t) × (number_at key default t ≤ high) × (rest ≡ false)
first_inside low high key default t rest e =
    let both = neither (is_outside low high key default t) rest e in
    let ends = within low high key default t both.0 in
    (ends.0, ends.1, both.1)
