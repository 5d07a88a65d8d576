use Rattle.process_api.proofs.Basics.{◌≡◌, ℕ, ◌*◌, ◌-◌, ◌<◌, cond, nat_lt, length, get_or, bit_at, WORDS}
use Rattle.process_api.proofs.words.low.Given as goal

abbrev pub invariant-loop-k : goal.invariant-loop-k
invariant-loop-k l = record {
  wide : length l.kept ≡ WORDS;
  cut : (j i : ℕ) → j < l.k → i < 64 → bit_at (get_or l.kept j 0) i ≡ cond (nat_lt i (l.most - j * 64)) (bit_at (get_or l.words j 0) i) 0;
}
