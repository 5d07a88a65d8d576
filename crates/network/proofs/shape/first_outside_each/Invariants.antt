use Rattle.network.proofs.Basics.{◌≡◌, drop, items_view, first_of, first_outside}
use Rattle.network.proofs.shape.first_outside_each.Given as goal

abbrev pub invariant-loop-value : goal.invariant-loop-value
invariant-loop-value l = first_of (first_outside l.low l.high) (items_view l.values) ≡ first_of (first_outside l.low l.high) (items_view (drop l.value-index l.values))
