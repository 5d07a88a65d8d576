use Rattle.mailboxes.proofs.Words.{◌≡◌, ◌++◌, ℕ, [], get_or, length, map, All, flat_map, into_iter_items, IsSlipOf}
use Rattle.mailboxes.proofs.mailboxes.Mailboxes.into_inboxes.Given as goal

-- the letters that came back, and those of the slips that are left, are all
abbrev pub invariant-loop-slip : goal.invariant-loop-slip
invariant-loop-slip l =
    let rest = into_iter_items l.slip-iterator in
    record {
      of : map (λ h. h.mailbox) l.homes.items ≡ l.boxes.items;
      slips : All (IsSlipOf l.boxes.items) rest;
      out : All (λ h. h.out ≡ length rest) l.homes.items;
      letters : (k : ℕ) → get_or (map (λ h. h.back) l.homes.items) k [] ++ flat_map (λ s. get_or s.posted k []) rest ≡ flat_map (λ s. get_or s.posted k []) l.fn.slips.items;
    }
