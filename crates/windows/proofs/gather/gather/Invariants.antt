use Rattle.windows.proofs.Words.{◌≡◌, ◌+◌, ◌++◌, ℕ, List, length, map, vec_len, All, flat_map, into_iter_items, Record, MailboxId, deques_of, IsWork, AreRun}
use Rattle.windows.proofs.gather.gather.Given as goal

abbrev pub invariant-loop-work : goal.invariant-loop-work
invariant-loop-work g l =
    let mind = g.M.Process.mind in
    let rest = into_iter_items l.work-iterator in
    let all = l.fn.works.items in
    let dealt = map (λ w. w.hand.own) all in
    record {
      own : map (λ h. h.own) l.hands.items ++ map (λ w. w.hand.own) rest ≡ dealt;
      of_all : All (λ h. h.deques ≡ deques_of dealt) l.hands.items;
      left : All (λ w. w.hand.deques ≡ deques_of dealt) rest;
      count : vec_len l.slips + length rest ≡ vec_len l.fn.works;
      works : (s : Record) (end : ℕ) (m : List MailboxId) → length m ≡ s.processes → All (λ w. IsWork mind s end (deques_of dealt) m w.hand w.slip w.done.items) all
          → All (λ w. IsWork mind s end (deques_of dealt) m w.hand w.slip w.done.items) rest × AreRun mind s end m (flat_map (λ h. h.taken) l.hands.items) l.done.items l.slips.items;
    }
