use Rattle.scenario.proofs.Words.{◌≡◌, replicate, [], outages_in}
use Rattle.scenario.proofs.outages.no_outages.Given as goal

abbrev pub invariant-loop-k : goal.invariant-loop-k
invariant-loop-k l = outages_in l.outages.items ≡ replicate l._k []
