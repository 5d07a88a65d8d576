use Rattle.network.proofs.Basics.{◌≡◌, ◌++◌, take, flat_map, pause_of}
use Rattle.network.proofs.tables.PauseDrawsOutages.draw.Given as goal

-- those of the processes so far
abbrev pub invariant-loop-p : goal.invariant-loop-p
invariant-loop-p l = l.drawn ≡ l.fn.drawn
    ++ flat_map (pause_of l.course.processes l.course.horizon l.course.seed l.before l.self) (take l.p-index l.p-items)
