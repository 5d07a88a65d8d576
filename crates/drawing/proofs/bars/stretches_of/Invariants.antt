use Rattle.drawing.proofs.Words.{ℕ, ◌≤◌, max, false, take, AreUntil, turns, IsSwept, after_all}
use Rattle.drawing.proofs.bars.stretches_of.Given as goal

-- of the entries so far
abbrev pub invariant-loop-entry : goal.invariant-loop-entry
invariant-loop-entry l = record {
  swept : IsSwept (after_all (λ _. false) (turns l.layer l.observer l.subject l.until (take l.entry-index l.trace))) l.from l.sweep;
  reached : (m : ℕ) → AreUntil (take l.entry-index l.trace) m → l.sweep.tick ≤ max l.from m;
  within : l.sweep.tick ≤ max l.from l.until;
}
