use Rattle.mailboxes.proofs.Words.{splits}
use Rattle.mailboxes.proofs.mailbox.Mailbox.ticket.Goals as goal

pub another-pass-requires-clause-rule : goal.another-pass-requires-clause-rule
another-pass-requires-clause-rule c = splits _ _ c.home.invariant.1 c.home.invariant.2
