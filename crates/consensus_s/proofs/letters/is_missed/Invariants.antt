use Rattle.consensus_s.proofs.Words.{◌≡◌, false, kept_of, missed_in}
use Rattle.consensus_s.proofs.letters.is_missed.Given as goal

abbrev pub invariant-loop-before : goal.invariant-loop-before
invariant-loop-before l = missed_in l.before (kept_of l.fn.letters) l.fn.round l.fn.k ≡ false
