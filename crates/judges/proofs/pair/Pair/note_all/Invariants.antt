use Rattle.judges.proofs.Words.{◌≡◌, take, noted_turns, all_turned}
use Rattle.judges.proofs.pair.Pair.note_all.Given as goal

abbrev pub invariant-loop-note : goal.invariant-loop-note
invariant-loop-note g l = l.self ≡ all_turned g.K.Gauge.passed l.fn.self (noted_turns l.layer l.subject l.tick (take l.note-index l.notes))
