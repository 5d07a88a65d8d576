use Rattle.drawing.proofs.Words.{◌≡◌, ◌++◌, flat_map, others, link_bands}
use Rattle.drawing.proofs.groups.Run.push_line_bands.Given as goal

-- the other processes so far
abbrev pub invariant-loop-before : goal.invariant-loop-before
invariant-loop-before l = l.shapes.items ≡ l.fn.shapes.items ++ flat_map (link_bands l.self l.sender) (others l.before l.sender)
