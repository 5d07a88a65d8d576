use Rattle.scenario.proofs.Words.{◌≡◌, ◌++◌, outages_in}
use Rattle.std.specs.Vec.Iter.{into_iter_items}
use Rattle.scenario.proofs.outages.ready.Given as goal

abbrev pub invariant-loop-list : goal.invariant-loop-list
invariant-loop-list l = l.links.items ++ outages_in (into_iter_items l.list-iterator) ≡ outages_in l.fn.lists.items
