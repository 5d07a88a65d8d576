use Rattle.study_commands.proofs.Words.{◌≡◌, map, drop, list_any, path_of, is_of_outage}
use Rattle.study_commands.proofs.shared_outages.sets_outage.Given as goal

abbrev pub invariant-loop-key : goal.invariant-loop-key
invariant-loop-key l =
    list_any is_of_outage (map path_of l.axis.keys.items)
    ≡ list_any is_of_outage (map path_of (drop l.key-index l.axis.keys.items))
