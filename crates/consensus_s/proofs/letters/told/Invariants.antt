use Rattle.consensus_s.proofs.Words.{◌≡◌, None, kept_of, told_in}
use Rattle.consensus_s.proofs.letters.told.Given as goal

abbrev pub invariant-loop-before : goal.invariant-loop-before
invariant-loop-before l = told_in l.before (kept_of l.fn.letters) l.fn.round l.fn.k ≡ None
