use Rattle.sweep.proofs.Words.{All, IsPlaced}
use Rattle.sweep.proofs.parallel.answer_some.Given as goal

abbrev pub invariant-loop : goal.invariant-loop
invariant-loop g l = All (IsPlaced g.F.Fn l.job l.first l.count) l.answers.items
