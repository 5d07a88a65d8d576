use Rattle.deques.proofs.Words.{◌≡◌, ◌≤◌, ◌+◌, ◌++◌, length, map, vec_len, vec_capacity, All, into_iter_items, dealt_of, HasTold, AreBlank, IsDealt}
use Rattle.deques.proofs.dealing.hands_of.Given as goal

abbrev pub invariant-loop-owner : goal.invariant-loop-owner
invariant-loop-owner g l =
    let rest = into_iter_items l.owner-iterator in
    let lists = into_iter_items l.lists in
    let all = map dealt_of l.fn.owners.items in
    record {
      own : map (λ h. h.own) l.hands.items ++ map dealt_of rest ≡ all;
      hands : All (IsDealt {T = g.row.T.Denot} all) l.hands.items;
      owners : All (HasTold {T = g.row.T.Denot} (vec_len l.fn.owners) all) rest;
      blank : All (λ v. AreBlank {T = g.row.T.Denot} (vec_len l.fn.owners) all v.items) lists;
      same : length lists ≡ length rest;
      place : l.place + length rest ≡ vec_len l.fn.owners;
      count : vec_len l.hands + length rest ≡ vec_len l.fn.owners;
      room : vec_len l.fn.owners ≤ vec_capacity l.hands;
    }
