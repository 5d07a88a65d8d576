use Rattle.drawing.proofs.Words.{◌≡◌, ◌++◌, flat_map, others, placeless, turns_in}
use Rattle.drawing.proofs.groups.Run.push_turns.Given as goal

-- the other processes so far
abbrev pub invariant-loop-before : goal.invariant-loop-before
invariant-loop-before l =
    placeless l.shapes.items ≡ placeless l.fn.shapes.items ++ flat_map (turns_in l.self l.observer) (others l.before l.observer)
