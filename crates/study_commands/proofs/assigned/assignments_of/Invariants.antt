use Rattle.study_commands.proofs.Words.{map, take, AllZip, SaysAssignment}
use Rattle.study_commands.proofs.assigned.assignments_of.Given as goal

abbrev pub invariant-loop-word : goal.invariant-loop-word
invariant-loop-word l = AllZip SaysAssignment (map (λ w. w.now) (take l.word-index l.words)) l.assignments.items
