use Rattle.network.proofs.Basics.{◌≡◌, ◌++◌, take, flat_map, enumerate_from}
use Rattle.network.proofs.drawing.draw_all.Given as goal

-- those of the tables so far
abbrev pub invariant-loop-i : goal.invariant-loop-i
invariant-loop-i g l = l.drawn ≡ l.fn.drawn
    ++ flat_map (λ numbered. g.T.DrawsOutages.outages l.course.processes l.course.horizon l.course.seed numbered.0 numbered.1)
    (take l.i (enumerate_from 0 l.tables))
