use Rattle.study_commands.proofs.Words.{map, take, AllZip, SaysAxis}
use Rattle.study_commands.proofs.study_words.axes_of.Given as goal

abbrev pub invariant-loop-word : goal.invariant-loop-word
invariant-loop-word l = AllZip SaysAxis (map (λ w. w.now) (take l.word-index l.words)) l.axes.items
