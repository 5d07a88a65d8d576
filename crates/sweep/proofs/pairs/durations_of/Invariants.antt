use Rattle.sweep.proofs.Words.{◌≡◌, take, flat_map, lengths_of}
use Rattle.sweep.proofs.pairs.durations_of.Given as goal

abbrev pub invariant-loop-pair : goal.invariant-loop-pair
invariant-loop-pair l = l.all.items ≡ flat_map (λ m. lengths_of l.durations m.observer m.subject) (take l.pair-index l.pairs)
