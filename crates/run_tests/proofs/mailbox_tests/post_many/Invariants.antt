use Rattle.mailboxes.specs.Mailboxes.{IsSlipOf}
use Rattle.run_tests.proofs.mailbox_tests.post_many.Given as goal

abbrev pub invariant-loop-number : goal.invariant-loop-number
invariant-loop-number g l = IsSlipOf l.mailboxes l.slip
