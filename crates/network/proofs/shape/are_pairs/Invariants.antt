use Rattle.network.proofs.Basics.{◌≡◌, drop, items_view, all_items, is_pair}
use Rattle.network.proofs.shape.are_pairs.Given as goal

abbrev pub invariant-loop-value : goal.invariant-loop-value
invariant-loop-value l = all_items is_pair (items_view l.values) ≡ all_items is_pair (items_view (drop l.value-index l.values))
