use Rattle.mailboxes.proofs.Words.{◌≡◌, [], vec_len, All}
use Rattle.mailboxes.proofs.mailboxes.Mailboxes.new.Given as goal

abbrev pub invariant-loop : goal.invariant-loop
invariant-loop l = (vec_len l.inboxes ≡ l.counter) × All (λ i. i ≡ []) l.inboxes.items
