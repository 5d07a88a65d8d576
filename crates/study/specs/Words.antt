-- Numbers as words of a command line, and a word's bounds.
use Rattle.std.specs.{Prelude.{ℕ, ◌^◌, nat_lt, ◌==◌, ℤ, pos, negsuc, neg_ℤ, List, length, drop, Bool, not, ◌&&◌, cond, codes, Option, Some, None, if◌then◌else◌, nat_le}, Char.{is_ascii_digit}}
use Rattle.std.specs.{List.{list_any, list_all, starts_with, before_first, after_first, slice_split}, Str.Parse.{digits_value, starts_with_minus}, Option.{option_and_then}}
use Rattle.study.specs.{Grid.{ShardRecord}, declared.error.{SeedsError.{SeedsError}, ShardError.{ShardError}}}
use Rattle.study.specs.declared.error.SeedsError.TheVariants as error
use Rattle.study.specs.declared.error.ShardError.TheVariants as shard_error

abbrev pub Word : Type 0
Word = List ℕ

abbrev pub has : ℕ → Word → Bool
has c w = list_any (λ b. b == c) w

-- what stands before and after the first such byte; nothing after it where there is none
abbrev pub before : ℕ → Word → Word
before c w = before_first (λ b. b == c) w

abbrev pub after : ℕ → Word → Word
after c w = after_first (λ b. b == c) w

-- what stands between such bytes
abbrev pub between : ℕ → Word → List Word
between c w = slice_split (λ b. b == c) w

-- decimal digits, at least one
abbrev pub is_natural : Word → Bool
is_natural w = not (length w == 0) && list_all is_ascii_digit w

-- a natural number after a minus sign or none
abbrev pub is_integer : Word → Bool
is_integer w = is_natural (drop (cond (starts_with_minus w) 1 0) w)

abbrev pub natural : Word → ℕ
natural w = digits_value 10 w

abbrev pub integer : Word → ℤ
integer w = cond (starts_with_minus w) (neg_ℤ (pos (natural (drop 1 w)))) (pos (natural w))

-- 64 bits with a sign hold the number
abbrev pub fits : ℤ → Bool
fits (pos n) = nat_lt n (2 ^ 63)
fits (negsuc n) = nat_lt n (2 ^ 63)

-- what stands before and after `..=`, where a word has that at its first dot
abbrev pub bounds : Word → Option (Word × Word)
bounds w =
    if starts_with (λ a b. a == b) (after 46 w) (codes ".=") then Some (before 46 w, drop 2 (after 46 w)) else None

-- which words say which seeds
abbrev pub seeds_between : Word × Word → Option (ℕ × ℕ)
seeds_between ends = if is_natural ends.0 && is_natural ends.1 then Some (natural ends.0, natural ends.1) else None

-- the first seed and the last: A and B of A..=B, or both A
abbrev pub seeds_said : Word → Option (ℕ × ℕ)
seeds_said w = if is_natural w then Some (natural w, natural w) else option_and_then seeds_between (bounds w)

-- why there are no such seeds
abbrev pub seeds_fault : Option (ℕ × ℕ) → Option SeedsError
seeds_fault None = Some error.NoSeeds
seeds_fault (Some (first, last)) = if not (nat_lt first (2 ^ 63) && nat_lt last (2 ^ 63)) then Some error.SeedTooHigh
    else if nat_lt last first then Some error.EmptyRange
    else None

-- K and N of K/N
abbrev pub shard_said : Word → Option ShardRecord
shard_said w = if has 47 w && (is_natural (before 47 w) && is_natural (after 47 w))
    then Some (record { number = natural (before 47 w); of = natural (after 47 w) })
    else None

-- why there is no such shard
abbrev pub shard_fault : Option ShardRecord → Option ShardError
shard_fault None = Some shard_error.NoShard
shard_fault (Some s) =
    if nat_le 1 s.number && (nat_le s.number s.of && nat_lt s.of (2 ^ 32)) then None else Some shard_error.OutOfRange
