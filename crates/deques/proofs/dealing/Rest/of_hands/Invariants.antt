use Rattle.deques.proofs.Words.{◌≡◌, ◌++◌, length, map, All, flat_map, IsPermutation, into_iter_items, deques_of}
use Rattle.deques.proofs.dealing.Rest.of_hands.Given as goal

abbrev pub invariant-loop-permits : goal.invariant-loop-permits
invariant-loop-permits g l =
    let left = into_iter_items l.permits-iterator in
    let all = map (λ h. h.own) l.fn.hands.items in
    record {
      own : l.rest.own ≡ all;
      out : l.rest.out ≡ length left;
      deques : All (λ v. map (λ p. p.deque) v.items ≡ deques_of {T = g.row.T.Denot} all) left;
      taken : IsPermutation (flat_map (λ h. h.taken) l.fn.hands.items) (l.rest.taken ++ flat_map (λ v. flat_map (λ p. p.taken) v.items) left);
    }
