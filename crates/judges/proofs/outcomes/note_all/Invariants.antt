use Rattle.judges.proofs.Words.{◌≡◌, take, all_noted}
use Rattle.judges.proofs.outcomes.note_all.Given as goal

abbrev pub invariant-loop-one : goal.invariant-loop-one
invariant-loop-one l = l.outcome ≡ all_noted l.fn.outcome l.tick (take l.one-index l.notes)
