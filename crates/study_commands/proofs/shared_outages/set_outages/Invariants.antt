use Rattle.study_commands.proofs.Words.{◌≡◌, map, drop, list_any, choices, sets_outage}
use Rattle.study_commands.proofs.shared_outages.set_outages.Given as goal

abbrev pub invariant-loop-axis : goal.invariant-loop-axis
invariant-loop-axis l =
    list_any sets_outage (map choices l.axes) ≡ list_any sets_outage (map choices (drop l.axis-index l.axes))
