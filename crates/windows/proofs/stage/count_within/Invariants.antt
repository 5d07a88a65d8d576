use Rattle.windows.proofs.Words.{◌≡◌, ◌+◌, ◌≤◌, length, map, drop, Vec, all_of}
use Rattle.windows.proofs.stage.count_within.Given as goal

abbrev pub invariant-loop-part : goal.invariant-loop-part
invariant-loop-part l =
    (l.made + length (all_of (map (λ (v : Vec _). v.items) (drop l.part-index l.fn.parts))) ≡ length (all_of (map (λ (v : Vec _). v.items) l.fn.parts)))
    × (l.made ≤ l.fn.left)
