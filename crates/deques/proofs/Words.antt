-- Words and lemmas of the libraries and of this crate that several proofs use.
pub use Rattle.std.proofs.Common.{Bool, IfOk, List, MatchOption, None, Option, Some, [], add-one, ap, append-nil, append_assoc, arith, drop, false, get_or, if◌then◌else◌, inl, inr, length, map, nat_eq, refl, rules, set, subst, suc, sym, take, true, vec_capacity, vec_len, zero, ℕ, ◌%◌, ◌++◌, ◌+◌, ◌-◌, ◌<◌, ◌∙◌, ◌∷◌, ◌≡◌, ◌≢◌, ◌≤◌, ◌⊎◌}
pub use Rattle.std.proofs.Math.Seq.{map-set_same}
pub use Rattle.std.proofs.lemmas.Iterator.Adapters.{YieldsList-from_vec}
pub use Rattle.std.proofs.lemmas.Iterator.Consumers.{YieldsList-end, YieldsList-turn}
pub use Rattle.std.proofs.lemmas.List.{drop_all, get_or_default, length-map, map-append, map-id, map_more, nil_from_length, set-get_or, take_all}
pub use Rattle.std.proofs.lemmas.List.Elements.{All-cons, All-get_or, All-head, All-map, All-nil, All-push, All-same, All-tail, All-weaker, Contains-append_left, Contains-append_right}
pub use Rattle.std.proofs.lemmas.List.Sorted.{IsPermutation-append_comm, IsPermutation-append_left, IsPermutation-append_right, IsPermutation-refl, IsPermutation-trans}
pub use Rattle.std.proofs.lemmas.Nat.{mod_below}
pub use Rattle.std.proofs.lemmas.Simd.{map-map}
pub use Rattle.std.specs.Global.{Vec}
pub use Rattle.std.specs.List.{All, Contains, flat_map}
pub use Rattle.std.specs.List.Sorted.{IsPermutation}
pub use Rattle.std.specs.Vec.Iter.{into_iter_items}
pub use Rattle.ledger.proofs.Ledgers.{among, learns, puts, takes}
pub use Rattle.ledger.proofs.Lists.{below_parts, length_more, mixed_at, parts_agree, turn_at, turn_more, with-length, with-map, with-nil}
pub use Rattle.ledger.specs.Ledger.{AreTold, EachOnce, IsBalanced, has_put, has_taken, new_pass, told_in, each_with}
pub use Rattle.ledger.specs.declared.account.Account.{Account}
pub use Rattle.deques.specs.Deques.{AreBlank, AreShares, CameBack, CanHold, Dealt, DequeId, HandView, HasTold, IsDealt, MayTell, OwnerView, PermitView, Popped, RestView, Stole, TookLast, TookOne, all_put, blank, dealt_of, deques_of, hand_at, hand_of, many_out, one_back, one_out, owner_of, permit_of, rest_of, share_from, with_item}
