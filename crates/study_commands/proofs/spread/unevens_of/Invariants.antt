use Rattle.study_commands.proofs.Words.{◌≡◌, map, take, period_of, uneven_in}
use Rattle.study_commands.proofs.spread.unevens_of.Given as goal

abbrev pub invariant-loop-run : goal.invariant-loop-run
invariant-loop-run l = l.all.items ≡ map (λ r. uneven_in (period_of r.detector) l.ticks) (take l.run-index l.runs)
