use Rattle.std.proofs.Common.{◌≡◌, length}
use Rattle.mailboxes.specs.Mailboxes.{IsSlipOf}
use Rattle.run_tests.proofs.mailbox_tests.post_together.Given as goal

abbrev pub invariant-loop-number : goal.invariant-loop-number
invariant-loop-number g l = (length l.tray ≡ length l.mailboxes) × IsSlipOf l.mailboxes l.slip
