use Rattle.process_api.proofs.Basics.{◌≡◌, ℕ, ◌<◌, ◌≤◌, length, get_or, bit_or, WORDS}
use Rattle.process_api.proofs.words.either.Given as goal

abbrev pub invariant-loop-k : goal.invariant-loop-k
invariant-loop-k l = record {
  wide : length l.both ≡ WORDS;
  joined : (j : ℕ) → j < l.k → get_or l.both j 0 ≡ bit_or (get_or l.a j 0) (get_or l.b j 0);
  left : (j : ℕ) → l.k ≤ j → get_or l.both j 0 ≡ get_or l.a j 0;
}
