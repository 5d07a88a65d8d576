use Rattle.study_commands.proofs.Words.{◌≡◌, map, take, Some, process_said}
use Rattle.study_commands.proofs.picturing.named_by.Given as goal

abbrev pub invariant-loop-piece : goal.invariant-loop-piece
invariant-loop-piece l = map process_said (map (λ w. w.now) (take l.piece-index l.pieces)) ≡ map Some l.named.items
