use Rattle.mailboxes.proofs.Words.{◌++◌, into_iter_items, letters_in, Shuffled}
use Rattle.mailboxes.proofs.mailboxes.letters_from_all.Given as goal

-- the lists so far, and what the rest would give
abbrev pub invariant-loop-inbox : goal.invariant-loop-inbox
invariant-loop-inbox g l = Shuffled l.fn.inboxes.items (letters_in l.lists.items ++ into_iter_items l.inbox-iterator)
