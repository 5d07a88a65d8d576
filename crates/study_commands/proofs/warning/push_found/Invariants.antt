use Rattle.study_commands.proofs.Words.{take, filter_map, option_map, Gains, paths_said, unused}
use Rattle.study_commands.proofs.warning.push_found.Given as goal

abbrev pub invariant-loop-key : goal.invariant-loop-key
invariant-loop-key l =
    Gains l.fn.all l.all
    (filter_map (λ p. option_map (unused p) l.found) (paths_said (take l.key-index l.keys)))
