use Rattle.drawing.proofs.Sweeping.{turned}
use Rattle.drawing.proofs.sweep.Sweep.turn.Goals as goal

pub returns-clause-swept : goal.returns-clause-swept
returns-clause-swept c test from h l = turned test from c.args.tick c.args.self.now c.pass.new.self c.in_ok-pass.ensures h l c.args.suspected
