use Rattle.study_commands.proofs.Words.{◌≡◌, take, filter_map, choices, tick_in}
use Rattle.study_commands.proofs.dealt_ticks.ticks_at.Given as goal

abbrev pub invariant-loop-value : goal.invariant-loop-value
invariant-loop-value l = l.ticks.items ≡ filter_map (tick_in l.place) (take l.value-index (choices l.axis))
