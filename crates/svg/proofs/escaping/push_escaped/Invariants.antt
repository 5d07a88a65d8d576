use Rattle.std.proofs.Common.{◌≡◌, ◌++◌, take}
use Rattle.svg.specs.Document.{escaped}
use Rattle.svg.proofs.escaping.push_escaped.Given as goal

-- the bytes so far
abbrev pub invariant-loop-byte : goal.invariant-loop-byte
invariant-loop-byte l = l.out.items ≡ l.initial.out.items ++ escaped (take l.byte-index l.text)
