use Rattle.drawing.proofs.Words.{◌≡◌, ◌++◌, flat_map, take, Outcome, placeless, own_of, own_top}
use Rattle.drawing.proofs.groups.Run.push_lines.Given as goal

-- the processes so far
abbrev pub invariant-loop-outcome : goal.invariant-loop-outcome
invariant-loop-outcome l =
    placeless l.shapes.items ≡ placeless l.initial.shapes.items ++ flat_map (λ (o : Outcome). own_of l.self (own_top l.self.scenario.now.processes o.pid) o.pid) (take l.outcome-index l.told)
