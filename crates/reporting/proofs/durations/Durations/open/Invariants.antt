use Rattle.reporting.proofs.Words.{◌≡◌, ℕ, [], get_or, vec_len, lists_in}
use Rattle.reporting.proofs.durations.Durations.open.Given as goal

abbrev pub invariant-loop : goal.invariant-loop
invariant-loop l = record {
  count : vec_len l.pairs ≡ l.counter;
  each : (k : ℕ) → get_or (lists_in l.pairs.items) k [] ≡ [];
}
