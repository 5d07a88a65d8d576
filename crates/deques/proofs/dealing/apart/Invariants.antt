use Rattle.deques.proofs.Words.{◌≡◌, ◌≤◌, ◌+◌, ◌++◌, length, map, vec_len, vec_capacity, Some, All, flat_map, IsPermutation, into_iter_items, dealt_of, deques_of}
use Rattle.deques.proofs.dealing.apart.Given as goal

abbrev pub invariant-loop-hand : goal.invariant-loop-hand
invariant-loop-hand g l =
    let rest = into_iter_items l.hand-iterator in
    let all = map (λ h. h.own) l.fn.hands.items in
    record {
      own : map dealt_of l.owners.items ++ map (λ h. h.own) rest ≡ all;
      owners : All (λ o. (o.out ≡ vec_len l.fn.hands) × (o.told ≡ Some o.put)) l.owners.items;
      deques : All (λ v. map (λ p. p.deque) v.items ≡ deques_of {T = g.row.T.Denot} all) l.lists.items;
      left : All (λ h. h.deques ≡ deques_of {T = g.row.T.Denot} all) rest;
      taken : IsPermutation (flat_map (λ h. h.taken) l.fn.hands.items)
          ((flat_map (λ o. o.taken) l.owners.items ++ flat_map (λ v. flat_map (λ p. p.taken) v.items) l.lists.items) ++ flat_map (λ h. h.taken) rest);
      made : vec_len l.owners + length rest ≡ vec_len l.fn.hands;
      count : vec_len l.lists + length rest ≡ vec_len l.fn.hands;
      room : vec_len l.fn.hands ≤ vec_capacity l.owners;
      space : vec_len l.fn.hands ≤ vec_capacity l.lists;
    }
