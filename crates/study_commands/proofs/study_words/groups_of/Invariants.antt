use Rattle.study_commands.proofs.Words.{map, take, AllZip, SaysGroup}
use Rattle.study_commands.proofs.study_words.groups_of.Given as goal

abbrev pub invariant-loop-word : goal.invariant-loop-word
invariant-loop-word l = AllZip SaysGroup (map (λ w. w.now) (take l.word-index l.words)) l.groups.items
