-- Sets of processes as bits of words in a row: process q is bit q - 1, and bit 64 is the lowest of the second word.
use Rattle.std.specs.{Prelude.{ℕ, zero, suc, ◌/◌, ◌%◌, Bool, cond, nat_eq, List, slice_index}, Int.{bit_at}}
use Rattle.std.specs.FinSet as set
use Rattle.process_api.specs.Sets.{Processes}

abbrev pub is_set : List ℕ → ℕ → Bool
is_set words place = nat_eq (bit_at (slice_index words (place / 64)) (place % 64)) 1

-- of processes 1 to n, those whose bit is set
unfoldable pub members : ℕ → (ℕ → Bool) → Processes
members zero is_bit_set = set.empty
members (suc n) is_bit_set = cond (is_bit_set n) (set.insert (members n is_bit_set) (suc n)) (members n is_bit_set)
