use Rattle.network.proofs.Basics.{◌≡◌, map, take, view, number_of}
use Rattle.network.proofs.reading.numbers_of.Given as goal

abbrev pub invariant-loop-value : goal.invariant-loop-value
invariant-loop-value l = l.numbers.items ≡ map (λ v. number_of (view v)) (take l.value-index l.values)
