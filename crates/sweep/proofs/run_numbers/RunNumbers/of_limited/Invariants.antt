use Rattle.sweep.proofs.Words.{take, AllZip, limited_run, AreGroupNumbers}
use Rattle.sweep.proofs.run_numbers.RunNumbers.of_limited.Given as goal

abbrev pub invariant-loop-group : goal.invariant-loop-group
invariant-loop-group l =
    AllZip (λ group n. AreGroupNumbers group (limited_run l.scenario) n) (take l._group-index l.groups) l.numbers.items
