use Rattle.scenario.proofs.Words.{◌≡◌, ◌==◌, ◌+◌, ◌-◌, map, filter, find, not, range_with_len, is_below, pairs_from, link_in}
use Rattle.scenario.proofs.below.first_from.Given as goal

abbrev pub invariant-loop-to : goal.invariant-loop-to
invariant-loop-to l = find (is_below (link_in l.n l.links) l.lookahead) (pairs_from l.n l.from) ≡ find (is_below (link_in l.n l.links) l.lookahead) (map (λ to. (l.from, to)) (filter (λ to. not (to == l.from)) (range_with_len l.to (l.n + 1 - l.to))))
