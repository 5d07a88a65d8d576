use Rattle.network.proofs.Basics.{◌≡◌, drop, items_view, any_item, is_empty_array}
use Rattle.network.proofs.shape.has_empty_array.Given as goal

abbrev pub invariant-loop-value : goal.invariant-loop-value
invariant-loop-value l = any_item is_empty_array (items_view l.values) ≡ any_item is_empty_array (items_view (drop l.value-index l.values))
