use Rattle.study_commands.proofs.Words.{◌≡◌, ◌++◌, filter, take, paths_of, paths_said, is_of_link}
use Rattle.study_commands.proofs.link_keys.push_keys.Given as goal

abbrev pub invariant-loop-axis : goal.invariant-loop-axis
invariant-loop-axis l =
    paths_said l.keys.items ≡ paths_said l.fn.keys.items ++ filter is_of_link (paths_of (take l.axis-index l.axes))
