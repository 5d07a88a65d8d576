use Rattle.network.proofs.Basics.{◌≡◌, ◌++◌, take, flat_map, alone}
use Rattle.network.proofs.tables.draw_alone.Given as goal

-- those of the links so far
abbrev pub invariant-loop-link : goal.invariant-loop-link
invariant-loop-link g l = l.drawn ≡ l.fn.drawn
    ++ flat_map (alone l.course.horizon l.course.seed l.kind l.before (g.S.Source.outages l.source)) (take l.link-index l.link-items)
