use Rattle.judges.proofs.Words.{◌≡◌, ℕ, ◌<◌, get_or, vec_len, opened_at}
use Rattle.judges.specs.declared.pair.Pair.{Pair}
use Rattle.judges.proofs.pairs.open_pairs.Given as goal

abbrev pub invariant-loop-place : goal.invariant-loop-place
invariant-loop-place g l = record {
  count : vec_len l.pairs ≡ l.place;
  each : (m : ℕ) (d : Pair g.row.K.Denot) → m < l.place → get_or l.pairs.items m d ≡ opened_at l.ends l.kept m;
}
