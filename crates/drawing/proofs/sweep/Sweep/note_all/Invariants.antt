use Rattle.drawing.proofs.Words.{ℕ, Bool, ◌≤◌, max, take, noted_turns, IsSwept, after_all}
use Rattle.drawing.proofs.sweep.Sweep.note_all.Given as goal

-- the notes so far
abbrev pub invariant-loop-note : goal.invariant-loop-note
invariant-loop-note l = record {
  swept : (test : ℕ → Bool) (from : ℕ) → IsSwept test from l.initial.self → l.initial.self.tick ≤ max from l.tick
      → IsSwept (after_all test (noted_turns l.layer l.subject l.tick (take l.note-index l.notes))) from l.self;
  tick : l.self.tick ≤ max l.initial.self.tick l.tick;
}
