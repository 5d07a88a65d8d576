use Rattle.consensus_s.proofs.Words.{◌≡◌, None, cell, first_to}
use Rattle.consensus_s.proofs.vectors.first_value.Given as goal

abbrev pub invariant-loop-before : goal.invariant-loop-before
invariant-loop-before l = first_to l.before (cell l.fn.cells) ≡ None
