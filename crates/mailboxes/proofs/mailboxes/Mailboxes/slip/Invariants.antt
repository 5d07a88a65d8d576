use Rattle.mailboxes.proofs.Words.{◌≡◌, ◌≤◌, ◌++◌, [], length, map, take, drop, vec_len, vec_capacity, one_out, ticket_of}
use Rattle.mailboxes.proofs.mailboxes.Mailboxes.slip.Given as goal

abbrev pub invariant-loop-at : goal.invariant-loop-at
invariant-loop-at l =
    (l.homes.items ≡ map one_out (take l.at l.initial.homes.items) ++ drop l.at l.initial.homes.items)
    × (l.tickets.items ≡ map (λ m. ticket_of m []) (take l.at l.shared-inside.boxes.items))
    × (l.at-end ≤ vec_capacity l.tickets)
    × (vec_len l.homes ≡ length l.shared-inside.boxes.items)
    × (l.at-end ≡ length l.shared-inside.boxes.items)
