use Rattle.network.proofs.Basics.{◌≡◌, take, range_with_len, flat_map, laid_from}
use Rattle.network.proofs.laid.laid_links.Given as goal

-- those of the senders so far
abbrev pub invariant-loop-before : goal.invariant-loop-before
invariant-loop-before l =
    l.laid.items ≡ flat_map (laid_from l.tables l.processes) (take l.before (range_with_len 1 l.processes))
