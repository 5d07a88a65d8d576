use Rattle.std.proofs.Common.{◌≡◌, ◌++◌, take, flat_map}
use Rattle.svg.specs.Document.{shape_text}
use Rattle.svg.proofs.document.push_shapes.Given as goal

-- the shapes so far
abbrev pub invariant-loop-shape : goal.invariant-loop-shape
invariant-loop-shape l = l.out.items ≡ l.initial.out.items ++ flat_map shape_text (take l.shape-index l.shapes)
