use Rattle.study_commands.proofs.Words.{◌≡◌, fold, max, take, gaps}
use Rattle.study_commands.proofs.spread.greatest_gap.Given as goal

abbrev pub invariant-loop-place : goal.invariant-loop-place
invariant-loop-place l = l.greatest ≡ fold max 0 (take l.place (gaps l.period l.phases))
