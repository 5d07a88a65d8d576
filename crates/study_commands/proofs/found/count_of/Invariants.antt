use Rattle.study_commands.proofs.Words.{◌≡◌, is_some, take, count_by}
use Rattle.study_commands.proofs.found.count_of.Given as goal

abbrev pub invariant-loop-each : goal.invariant-loop-each
invariant-loop-each g l = l.count ≡ count_by is_some (take l.each-index l.all)
