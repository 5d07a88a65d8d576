use Rattle.promised.proofs.Words.{◌≡◌, links_to}
use Rattle.std.specs.List.{flat_map, range_with_len}
use Rattle.promised.proofs.watching.watched_links.Given as goal

abbrev pub invariant-loop-before : goal.invariant-loop-before
invariant-loop-before l = l.links.items ≡ flat_map (links_to l.scenario) (range_with_len 1 l.before)
