use Rattle.std.proofs.Common.{◌≡◌, ℕ, get_or, vec_len}
use Rattle.runs.proofs.trusts.Trusts.open.Given as goal

abbrev pub invariant-loop : goal.invariant-loop
invariant-loop l = record {
  count : vec_len l.counts ≡ l.counter;
  each : (k : ℕ) → get_or l.counts.items k 0 ≡ 0;
}
