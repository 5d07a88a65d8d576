use Rattle.sweep.proofs.Words.{◌≡◌, None, vec_len, All}
use Rattle.sweep.proofs.parallel.empty_places.Given as goal

abbrev pub invariant-loop : goal.invariant-loop
invariant-loop g l = (vec_len l.places ≡ l.counter) × All (λ place. place ≡ None) l.places.items
