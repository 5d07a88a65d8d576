use Rattle.scenario.proofs.Words.{◌≡◌, ◌+◌, ◌-◌, find, range_with_len, flat_map, table_view, record_of, is_below, pairs_from, pair_below, link_in}
use Rattle.scenario.proofs.below.first_below.Given as goal

abbrev pub invariant-loop-from : goal.invariant-loop-from
invariant-loop-from l = pair_below (record_of (table_view l.top.table.now)) ≡ find (is_below (link_in l.n l.links) l.lookahead) (flat_map (pairs_from l.n) (range_with_len l.from (l.n + 1 - l.from)))
