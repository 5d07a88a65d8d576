use Rattle.network.proofs.Basics.{◌≡◌, drop, not, items_view, find, each, outage_of, lies_within}
use Rattle.network.proofs.together.outage_not_within.Given as goal

abbrev pub invariant-loop-value : goal.invariant-loop-value
invariant-loop-value l = find (λ o. not (lies_within l.lasts o)) (each outage_of (items_view l.values)) ≡ find (λ o. not (lies_within l.lasts o)) (each outage_of (items_view (drop l.value-index l.values)))
