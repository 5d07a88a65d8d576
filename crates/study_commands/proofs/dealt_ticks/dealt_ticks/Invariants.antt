use Rattle.study_commands.proofs.Words.{◌≡◌, take, map, flat_map, choices, dealt_of, dealt_by}
use Rattle.study_commands.proofs.dealt_ticks.dealt_ticks.Given as goal

abbrev pub invariant-loop-axis : goal.invariant-loop-axis
invariant-loop-axis l = map dealt_of l.all.items ≡ flat_map dealt_by (map choices (take l.axis-index l.axis-items))
