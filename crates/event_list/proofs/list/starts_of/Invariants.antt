use Rattle.event_list.proofs.Words.{◌≡◌, starts}
use Rattle.event_list.proofs.list.starts_of.Given as goal

abbrev pub invariant-loop-before : goal.invariant-loop-before
invariant-loop-before l = l.pending ≡ starts l.before
