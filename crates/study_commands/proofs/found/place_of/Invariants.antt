use Rattle.study_commands.proofs.Words.{◌≡◌, is_some, drop, position_from}
use Rattle.study_commands.proofs.found.place_of.Given as goal

abbrev pub invariant-loop-place : goal.invariant-loop-place
invariant-loop-place g l = position_from is_some 0 l.all ≡ position_from is_some l.place (drop l.place l.all)
