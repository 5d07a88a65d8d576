use Rattle.runs.proofs.Words.{◌≡◌, ◌+◌, ◌*◌, ℕ, take, length, cond, eqb, count_by, is_trust, AreCounts}
use Rattle.runs.proofs.trusts.note_all.Given as goal

abbrev pub invariant-loop-one : goal.invariant-loop-one
invariant-loop-one l = record {
  square : length l.counts ≡ l.n * l.n;
  so_far : (of : (q p : ℕ) → ℕ) → AreCounts l.n of l.fn.counts
      → AreCounts l.n (λ q p. of q p + cond (eqb l.observer q) (count_by (is_trust p) (take l.one-index l.notes)) 0) l.counts;
}
