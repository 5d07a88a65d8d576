use Rattle.mailboxes.proofs.Words.{◌≡◌, ◌++◌, [], drain_items, drain_kept}
use Rattle.mailboxes.proofs.mailbox.Mailbox.post_list.Given as goal

-- what was posted, and what the rest would give
abbrev pub invariant-loop-letter : goal.invariant-loop-letter
invariant-loop-letter g l =
    (l.ticket.mailbox ≡ l.fn.ticket.mailbox)
    × (l.ticket.posted ++ drain_items l.letter-iterator ≡ l.fn.ticket.posted ++ l.fn.letters.items)
    × (drain_kept l.letter-iterator ≡ [])
