use Rattle.sweep.proofs.Words.{◌≡◌, ◌<◌, ◌≤◌, ℕ, [], map, get_or, length, string_bytes, edits}
use Rattle.sweep.proofs.layout.nearest_to.Given as goal

abbrev pub invariant-loop-place : goal.invariant-loop-place
invariant-loop-place l = record {
  best_in : l.best < length l.names;
  least_is : l.least ≡ edits l.word (get_or (map string_bytes l.names) l.best []);
  least_low : (k : ℕ) → k < l.place → l.least ≤ edits l.word (get_or (map string_bytes l.names) k []);
}
