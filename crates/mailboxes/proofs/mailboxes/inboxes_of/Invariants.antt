use Rattle.mailboxes.proofs.Words.{◌≡◌, ◌++◌, length, map, All, into_iter_items}
use Rattle.mailboxes.proofs.mailboxes.inboxes_of.Given as goal

-- the inboxes so far, and what is left, of which each pass is of its mailbox
abbrev pub invariant-loop-home : goal.invariant-loop-home
invariant-loop-home l =
    let rest = into_iter_items l.home-iterator in
    let left = into_iter_items l.boxes in
    record {
      boxes : left ≡ map (λ h. h.mailbox) rest;
      out : All (λ h. h.out ≡ 0) rest;
      letters : l.inboxes.items ++ map (λ h. h.back) rest ≡ map (λ h. h.back) l.fn.homes.items;
      same : length left ≡ length rest;
    }
