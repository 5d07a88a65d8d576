use Rattle.study_commands.proofs.Words.{◌≡◌, take, filter_map, pair_in, view}
use Rattle.study_commands.proofs.common_link.pairs_in.Given as goal

abbrev pub invariant-loop-value : goal.invariant-loop-value
invariant-loop-value l = l.pairs.items ≡ filter_map (λ w. pair_in (view w)) (take l.value-index l.values)
