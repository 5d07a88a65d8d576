use Rattle.network.proofs.Basics.{◌≡◌, map, take, view, outage_of}
use Rattle.network.proofs.reading.outages_of.Given as goal

abbrev pub invariant-loop-value : goal.invariant-loop-value
invariant-loop-value l = l.outages.items ≡ map (λ v. outage_of (view v)) (take l.value-index l.values)
