use Rattle.drawing.proofs.Words.{◌≡◌, ◌++◌, flat_map, take, Outcome, placeless, marks_in}
use Rattle.drawing.proofs.groups.Run.push_all_marks.Given as goal

-- the processes so far
abbrev pub invariant-loop-outcome : goal.invariant-loop-outcome
invariant-loop-outcome l =
    placeless l.shapes.items ≡ placeless l.initial.shapes.items ++ flat_map (λ (o : Outcome). marks_in l.self o.pid) (take l.outcome-index l.told)
