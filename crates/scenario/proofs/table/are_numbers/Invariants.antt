use Rattle.scenario.proofs.Words.{◌≡◌, drop, items_view, all_items, is_number}
use Rattle.scenario.proofs.table.are_numbers.Given as goal

abbrev pub invariant-loop-value : goal.invariant-loop-value
invariant-loop-value l = all_items is_number (items_view l.values) ≡ all_items is_number (items_view (drop l.value-index l.values))
