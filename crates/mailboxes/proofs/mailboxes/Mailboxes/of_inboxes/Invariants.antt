use Rattle.mailboxes.proofs.Words.{◌≡◌, ◌+◌, [], length, All, into_iter_items, homes_of}
use Rattle.mailboxes.proofs.mailboxes.Mailboxes.of_inboxes.Given as goal

-- the mailboxes so far have their passes, as at first
abbrev pub invariant-loop-inbox : goal.invariant-loop-inbox
invariant-loop-inbox l =
    let rest = into_iter_items l.inbox-iterator in
    record {
      homes : l.homes.items ≡ homes_of 0 l.boxes.items;
      empty : All (λ i. i ≡ []) rest;
      count : length l.boxes.items + length rest ≡ length l.fn.inboxes.items;
    }
