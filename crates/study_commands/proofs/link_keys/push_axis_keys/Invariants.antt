use Rattle.study_commands.proofs.Words.{◌≡◌, ◌++◌, filter, map, take, path_of, paths_said, is_of_link}
use Rattle.study_commands.proofs.link_keys.push_axis_keys.Given as goal

abbrev pub invariant-loop-key : goal.invariant-loop-key
invariant-loop-key l =
    paths_said l.keys.items ≡ paths_said l.fn.keys.items ++ filter is_of_link (map path_of (take l.key-index l.axis.keys.items))
