use Rattle.mailboxes.proofs.Words.{merges}
use Rattle.mailboxes.proofs.mailbox.Mailbox.take_back.Goals as goal

pub absorb-requires-clause-rule : goal.absorb-requires-clause-rule
absorb-requires-clause-rule c = merges _ _ _ _ c.home.invariant.1 c.home.invariant.2
