use Rattle.process_api.proofs.Basics.{◌≡◌, ℕ, ◌<◌, ◌≤◌, length, get_or, bit_and, bit_xor, WORDS}
use Rattle.process_api.proofs.words.without.Given as goal

abbrev pub invariant-loop-k : goal.invariant-loop-k
invariant-loop-k l = record {
  wide : length l.left ≡ WORDS;
  taken : (j : ℕ) → j < l.k → get_or l.left j 0 ≡ bit_xor (get_or l.words j 0) (bit_and (get_or l.words j 0) (get_or l.others j 0));
  still : (j : ℕ) → l.k ≤ j → get_or l.left j 0 ≡ get_or l.words j 0;
}
