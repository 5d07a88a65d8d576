use Rattle.network.proofs.Basics.{◌≡◌, take, range_with_len, flat_map, links_from}
use Rattle.network.proofs.group.links_between.Given as goal

-- those of the senders so far
abbrev pub invariant-loop-before : goal.invariant-loop-before
invariant-loop-before l =
    l.links.items ≡ flat_map (links_from l.senders l.receivers l.both l.n) (take l.before (range_with_len 1 l.n))
