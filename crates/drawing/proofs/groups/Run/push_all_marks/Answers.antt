use Rattle.drawing.proofs.{Words.{◌++◌, arith, ap, take_all, placeless, marks_in}, LineShapes.{all_told, told_at}}
use Rattle.drawing.proofs.groups.Run.push_all_marks.Goals as goal

pub push_marks-requires : goal.push_marks-requires
push_marks-requires c = (told_at c.args.self.now.trace.now c.args.self.now.scenario.now.processes _ c.requires _ _ c.loop-outcome-test.true c.outcome-item.is).is

pub returns : goal.returns
returns c =
    let run = c.args.self.now in
    rw (c.loop-outcome.invariant, take_all c.loop-outcome.outcome-index c.args.told.now (omega (arith, c.loop-outcome-test.false)))
    (ap (λ t. placeless c.args.shapes.now.items ++ t) (all_told run.trace.now run.scenario.now.processes _ c.requires (marks_in run)))
