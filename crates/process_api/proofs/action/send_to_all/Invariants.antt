use Rattle.process_api.proofs.Basics.{◌≡◌, ◌++◌, to_all}
use Rattle.process_api.proofs.action.send_to_all.Given as goal

abbrev pub invariant-loop-before : goal.invariant-loop-before
invariant-loop-before l = l.out.items ≡ l.fn.out.items ++ to_all l.before l.fn.payload
