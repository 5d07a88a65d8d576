use Rattle.sweep.proofs.Words.{All, take, trusts_of, AreBounds, IsPair, bounds_of}
use Rattle.sweep.proofs.bounds.sum_bounds.Given as goal

abbrev pub invariant-loop-pair : goal.invariant-loop-pair
invariant-loop-pair l = All (λ m. IsPair l.scenario m.observer m.subject) l.pairs
    → AreBounds (bounds_of l.scenario (trusts_of l.trusts) (take l.pair-index l.pairs)) l.bounds
