use Rattle.drawing.proofs.Words.{◌≡◌, ◌++◌, map, take, placeless, bar_shape}
use Rattle.drawing.proofs.row_shapes.push_bars.Given as goal

-- the bars so far
abbrev pub invariant-loop-bar : goal.invariant-loop-bar
invariant-loop-bar l =
    placeless l.shapes.items ≡ placeless l.initial.shapes.items ++ map (bar_shape l.ticks.from l.ticks.until l.class l.top) (take l.bar-index l.bars)
