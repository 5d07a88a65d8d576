use Rattle.mailboxes.proofs.{Words.{◌≡◌, [], map, take, replicate, vec_len, letters_in}, Rows.{total}}
use Rattle.mailboxes.proofs.shared.SharedMailboxes.post_from.Given as goal

abbrev pub invariant-loop-at : goal.invariant-loop-at
invariant-loop-at g l =
    (map (λ t. t.mailbox) l.tickets.items ≡ map (λ t. t.mailbox) l.initial.tickets.items)
    × (total l.tickets.items l.lists.items ≡ total l.initial.tickets.items l.initial.lists.items)
    × (l.fn.from ≡ 0 → take l.at (letters_in l.lists.items) ≡ replicate l.at [])
    × (vec_len l.lists ≡ vec_len l.initial.lists)
