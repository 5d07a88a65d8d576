use Rattle.mailboxes.proofs.Words.{opens}
use Rattle.mailboxes.proofs.mailbox.Mailbox.open.Goals as goal

pub another-rests-requires-clause-rule : goal.another-rests-requires-clause-rule
another-rests-requires-clause-rule c = opens _ _ c.in_ok-queue.ensures.1 c.in_ok-queue.ensures.2
