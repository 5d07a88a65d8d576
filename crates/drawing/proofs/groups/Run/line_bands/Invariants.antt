use Rattle.drawing.proofs.Words.{◌≡◌, flat_map, numbers_to, line_bands_in}
use Rattle.drawing.proofs.groups.Run.line_bands.Given as goal

-- the processes so far
abbrev pub invariant-loop-before : goal.invariant-loop-before
invariant-loop-before l = l.bands.items ≡ flat_map (line_bands_in l.self) (numbers_to l.before)
