use Rattle.process_api.proofs.Basics.{◌≡◌, ◌++◌, to_others}
use Rattle.process_api.proofs.action.send_to_others.Given as goal

abbrev pub invariant-loop-before : goal.invariant-loop-before
invariant-loop-before l = l.out.items ≡ l.fn.out.items ++ to_others l.before l.fn.own l.fn.payload
