use Rattle.process_api.proofs.Basics.{◌≡◌, by_number, since_round}
use Rattle.std.specs.BTreeMap.{btree_map_len}
use Rattle.process_api.proofs.letters.drop_rounds_before.Given as goal

abbrev pub invariant-loop-first : goal.invariant-loop-first
invariant-loop-first g l = since_round l.fn.round (by_number l.kept) ≡ since_round l.fn.round (by_number l.fn.kept)

abbrev pub decreases-loop-first : goal.decreases-loop-first
decreases-loop-first g l = btree_map_len l.kept
