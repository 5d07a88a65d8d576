-- The keys of tables: processes, and pairs of them.
use Rattle.scenario.proofs.{Words.{◌≡◌, ℕ, ◌+◌, ◌-◌, ◌*◌, ◌/◌, ◌<◌, ◌==◌, true, refl, ap, sym, ◌∙◌, arith, eqb-true, eq-eqb, div-mul-add, mul-add-lt, pair_of, same_pair, crash_process, same_process, IsProcess, AreProcesses}, Slots.{Keys}}
use Rattle.scenario.proofs.Within.{both}

pub process_within : (n a : ℕ) → IsProcess n a → a - 1 < n
process_within n a good = omega arith

pub process_apart : (n a b : ℕ) → IsProcess n a → IsProcess n b → a - 1 ≡ b - 1 → a ≡ b
process_apart n a b good also e = omega arith

-- the process of a crash
abbrev pub process_keys : ℕ → Keys ℕ
process_keys n = record {
  key = crash_process;
  same = same_process;
  alike = eqb-true;
  itself = λ a. eq-eqb a a refl;
  IsKey = IsProcess n;
  count = n;
  place = λ a. a - 1;
  within = process_within n;
  apart = process_apart n;
}

same_parts : (a b : ℕ × ℕ) → a.0 ≡ b.0 → a.1 ≡ b.1 → a ≡ b
same_parts a b first second = ap (λ x. (x, a.1)) first ∙ ap (λ y. (b.0, y)) second

pub pair_alike : (a b : ℕ × ℕ) → same_pair a b ≡ true → a ≡ b
pair_alike a b e = let tests = both (a.0 == b.0) (a.1 == b.1) e in same_parts a b (eqb-true a.0 b.0 tests.0) (eqb-true a.1 b.1 tests.1)

pub pair_itself : (a : ℕ × ℕ) → same_pair a a ≡ true
pair_itself a = rw (eq-eqb a.0 a.0 refl, eq-eqb a.1 a.1 refl) refl

-- the place of a pair
abbrev pub pair_place : ℕ → ℕ × ℕ → ℕ
pair_place n pair = (pair.0 - 1) * n + (pair.1 - 1)

pub pair_apart : (n : ℕ) (a b : ℕ × ℕ) → AreProcesses n a → AreProcesses n b → pair_place n a ≡ pair_place n b → a ≡ b
pair_apart n a b good also e =
    let first_row : pair_place n a / n ≡ a.0 - 1 = div-mul-add (a.0 - 1) n (a.1 - 1) (omega arith) in
    let second_row : pair_place n b / n ≡ b.0 - 1 = div-mul-add (b.0 - 1) n (b.1 - 1) (omega arith) in
    let rows : a.0 - 1 ≡ b.0 - 1 = sym first_row ∙ (ap (λ x. x / n) e ∙ second_row) in
    let same_row : (a.0 - 1) * n ≡ (b.0 - 1) * n = ap (λ x. x * n) rows in
    same_parts a b (omega arith) (omega arith)

pub pair_within : (n : ℕ) (a : ℕ × ℕ) → AreProcesses n a → pair_place n a < n * n
pair_within n a good = mul-add-lt (a.0 - 1) n (a.1 - 1) n (omega arith) (omega arith)

-- the pair of a link, or of an outage
abbrev pub pair_keys : ℕ → Keys (ℕ × ℕ)
pair_keys n = record {
  key = pair_of;
  same = same_pair;
  alike = pair_alike;
  itself = pair_itself;
  IsKey = AreProcesses n;
  count = n * n;
  place = pair_place n;
  within = pair_within n;
  apart = pair_apart n;
}
