use Rattle.drawing.proofs.Words.{◌≡◌, ◌++◌, flat_map, take, placeless, bar_turns}
use Rattle.drawing.proofs.groups.Run.push_pair_turns.Given as goal

-- the stretches so far
abbrev pub invariant-loop-bar : goal.invariant-loop-bar
invariant-loop-bar l =
    placeless l.shapes.items ≡ placeless l.initial.shapes.items
    ++ flat_map (bar_turns l.self.ticks.from l.self.ticks.until l.spot.class l.spot.line l.spot.end l.spot.subject) (take l.bar-index l.bar-items)
