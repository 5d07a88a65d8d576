use Rattle.judges.proofs.Words.{◌≡◌, ℕ, suc, ◌<◌, get_or, vec_len, end_tick}
use Rattle.judges.proofs.ends.end_ticks.Given as goal

abbrev pub invariant-loop-before : goal.invariant-loop-before
invariant-loop-before l = record {
  count : vec_len l.ends ≡ l.before;
  each : (i : ℕ) (d : ℕ) → i < l.before → get_or l.ends.items i d ≡ end_tick l.scenario (suc i);
}
