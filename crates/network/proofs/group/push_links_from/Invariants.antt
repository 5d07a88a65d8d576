use Rattle.network.proofs.Basics.{ℕ, ◌≡◌, ◌++◌, filter, map, take, range_with_len, joins, Ends}
use Rattle.network.proofs.group.push_links_from.Given as goal

-- those so far
abbrev pub invariant-loop-before : goal.invariant-loop-before
invariant-loop-before l =
    let to_each : ℕ → Ends = λ to. record { from = l.from; to = to } in
    l.links.items ≡ l.fn.links.items
    ++ map to_each (filter (joins l.senders l.receivers l.both l.from) (take l.before (range_with_len 1 l.n)))
