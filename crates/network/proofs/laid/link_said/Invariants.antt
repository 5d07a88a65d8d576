use Rattle.network.proofs.Basics.{◌≡◌, map, take, None, LinkTable}
use Rattle.{std.specs.List.{filter, last_or}, network.specs.Laid.{is_of}}
use Rattle.network.proofs.laid.link_said.Given as goal

-- what was said last so far
abbrev pub invariant-loop-table : goal.invariant-loop-table
invariant-loop-table l =
    l.said ≡ last_or None (map (λ (t : LinkTable). t.link) (filter (is_of l.from l.to) (take l.table-index l.tables)))
