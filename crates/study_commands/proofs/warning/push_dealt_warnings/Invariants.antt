use Rattle.study_commands.proofs.Words.{map, take, filter_map, Gains, OfRuns, dealt_of, warning_of_dealt}
use Rattle.study_commands.proofs.warning.push_dealt_warnings.Given as goal

abbrev pub invariant-loop-each : goal.invariant-loop-each
invariant-loop-each l =
    OfRuns l.begin l.runs (λ points tables.
    Gains l.fn.all l.all (filter_map (warning_of_dealt points tables) (map dealt_of (take l.each-index l.dealt))))
