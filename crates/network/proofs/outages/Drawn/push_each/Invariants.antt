use Rattle.network.proofs.Basics.{◌≡◌, ◌++◌, map, take, outage_on}
use Rattle.network.proofs.outages.Drawn.push_each.Given as goal

-- those of the links so far
abbrev pub invariant-loop-link : goal.invariant-loop-link
invariant-loop-link l = l.self ≡ l.fn.self ++ map (outage_on l.outage) (take l.link-index l.links)
