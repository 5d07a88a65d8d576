use Rattle.mailboxes.proofs.Words.{◌≡◌, ◌≤◌, [], replicate, vec_len, vec_capacity, letters_in}
use Rattle.mailboxes.proofs.slip.Slip.tray.Given as goal

abbrev pub invariant-loop : goal.invariant-loop
invariant-loop l = (vec_len l.lists ≡ l.counter) × (l.end ≤ vec_capacity l.lists) × (letters_in l.lists.items ≡ replicate l.counter [])
