use Rattle.windows.proofs.Words.{◌≡◌, ◌+◌, ◌++◌, map, vec_len, All, into_iter_items, mailboxes_of, deques_of, all_put, IsDealt, IsFresh}
use Rattle.windows.proofs.gather.starts_of.Given as goal

abbrev pub invariant-loop-hand : goal.invariant-loop-hand
invariant-loop-hand g l =
    let rest = into_iter_items l.hand-iterator in
    let m = l.fn.mailboxes in
    let all = l.fn.dealer in
    record {
      own : map (λ b. b.hand.own) l.starts.items ++ map (λ h. h.own) rest ≡ all;
      slips : l.mailboxes ≡ mailboxes_of m.mailboxes (m.slips + vec_len l.starts);
      fresh : All (λ b. IsFresh (deques_of all) m.mailboxes b.hand b.slip) l.starts.items;
      known : All (λ b. b.hand.known ≡ all_put all) l.starts.items;
      left : All (IsDealt all) rest;
    }
