use Rattle.sweep.proofs.Words.{◌≡◌, Ok, map}
use Rattle.sweep.proofs.parallel.all_of.Given as goal

abbrev pub invariant-loop-answer : goal.invariant-loop-answer
invariant-loop-answer g l =
    (goal.iterator-loop-answer g).can_next l.answer-iterator ×
    (goal.iterator-loop-answer g).is_finite l.answer-iterator ×
    (map Ok l.all.items ≡ l.yielded)
