use Rattle.network.proofs.Basics.{◌≡◌, drop, items_view, processes_in}
use Rattle.std.specs.FinSet as set
use Rattle.process_api.specs.Sets.{insert_all}
use Rattle.network.proofs.reading.members_of.Given as goal

abbrev pub invariant-loop-value : goal.invariant-loop-value
invariant-loop-value l = insert_all set.empty (processes_in (items_view l.values))
    ≡ insert_all l.members (processes_in (items_view (drop l.value-index l.values)))
