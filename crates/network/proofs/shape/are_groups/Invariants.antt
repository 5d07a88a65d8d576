use Rattle.network.proofs.Basics.{◌≡◌, drop, items_view, all_items, is_numbers}
use Rattle.network.proofs.shape.are_groups.Given as goal

abbrev pub invariant-loop-value : goal.invariant-loop-value
invariant-loop-value l = all_items is_numbers (items_view l.values) ≡ all_items is_numbers (items_view (drop l.value-index l.values))
