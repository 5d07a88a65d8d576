use Rattle.std.proofs.Common.{◌≡◌, ◌++◌, take, flat_map}
use Rattle.svg.specs.Document.{attribute}
use Rattle.svg.proofs.elements.push_attributes.Given as goal

-- the attributes so far
abbrev pub invariant-loop-name : goal.invariant-loop-name
invariant-loop-name l =
    l.out.items ≡ l.initial.out.items ++ flat_map (λ a. attribute (a.0.now, a.1)) (take l.name-index l.numbers)
