use Rattle.network.proofs.Basics.{◌≡◌, drop, items_view, first_of, outside}
use Rattle.network.proofs.shape.first_outside_of.Given as goal

abbrev pub invariant-loop-value : goal.invariant-loop-value
invariant-loop-value l = first_of (outside l.low l.high) (items_view l.values) ≡ first_of (outside l.low l.high) (items_view (drop l.value-index l.values))
