use Rattle.study.proofs.{Basics.{◌≡◌, drop, view, items_view, put_in_each}, Placing.{after}}
use Rattle.study.proofs.placed.changed_items.Given as goal

abbrev pub invariant-loop-item : goal.invariant-loop-item
invariant-loop-item l =
    after l.changed.items (put_in_each l.key (view l.value) (items_view (drop l.item-index l.items)))
    ≡ put_in_each l.key (view l.value) (items_view l.items)
