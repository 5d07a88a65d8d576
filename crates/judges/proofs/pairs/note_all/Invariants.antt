use Rattle.judges.proofs.Words.{◌≡◌, ◌*◌, [], take, length, cond, eqb, AreTurned, noted_turns}
use Rattle.judges.proofs.pairs.note_all.Given as goal

abbrev pub invariant-loop-one : goal.invariant-loop-one
invariant-loop-one g l = record {
  square : length l.pairs ≡ l.n * l.n;
  so_far : AreTurned g.K.Gauge.passed l.n l.fn.pairs l.pairs (λ q p. cond (eqb l.key.receiver q) (noted_turns l.layer p l.key.tick (take l.one-index l.notes)) []);
}
