-- Words and lemmas of the libraries and of this crate that several proofs use.
pub use Rattle.std.proofs.Common.{inl, inr, Bool, Equal, Global, IsPermutation, IsTrue, Less, List, MatchOption, None, Option, Ordering, Some, Vec, [], ap, append_assoc, arith, false, get_or, is_eq, is_lt, length, map, min, refl, rules, set, slice_set, subst, suc, sym, take, true, zero, ℕ, ⊎_elim, ◌++◌, ◌+◌, ◌-◌, ◌<◌, ◌^◌, ◌∙◌, ◌∷◌, ◌≡◌, ◌≢◌, ◌≤◌}
pub use Rattle.std.proofs.lemmas.Bool.{false_from_ne_true}
pub use Rattle.std.proofs.lemmas.Cmp.{eq_by_cmp_equiv}
pub use Rattle.std.proofs.lemmas.List.{append-nil, length-set, map-append, nil_from_length, take_more_set, with_items_is}
pub use Rattle.std.proofs.lemmas.List.Elements.{All-append, All-cons, All-from_recursion, All-head, All-tail, All-weaker, recursion_from_All}
pub use Rattle.std.proofs.lemmas.List.Sorted.{All-permutation, IsPermutation-append, IsPermutation-append_comm, IsPermutation-append_left, IsPermutation-append_right, IsPermutation-cons, IsPermutation-middle, IsPermutation-refl, IsPermutation-sym, IsPermutation-trans, answers_always, ranks_by, sorted_far, length_permutation}
pub use Rattle.std.proofs.lemmas.List.Sums.{AllPass-from_list_all, list_all-from_AllPass}
pub use Rattle.std.proofs.lemmas.Map.Keys.{IsDistinct-IsPermutation}
pub use Rattle.std.specs.List.{All}
unfoldable pub use Rattle.std.specs.List.{IsDistinct}
pub use Rattle.std.specs.Option.{unwrap_or}
pub use Rattle.std.specs.Ordering.{ordering_reverse}
pub use Rattle.std.specs.Vec.Iter.{into_iter_items}
pub use Rattle.process_api.proofs.KeyOrder.{before_by_tick, exact_keys, keys_total}
pub use Rattle.process_api.proofs.Lists.{both, weaker}
pub use Rattle.process_api.proofs.Minds.{and_true, both_true}
pub use Rattle.process_api.specs.Order.{EntryRecord, is_before, is_less, is_rising, key_cmp}
pub use Rattle.process_api.specs.declared.entry.Entry.{Entry}
pub use Rattle.trace_merge.specs.Parts.{AllDiffer, AreApart, AreDisjoint, IsInOrder, IsMergeOf, all_of, same}
pub use Rattle.trace_merge.specs.declared.by_tick.Lane.{Lane}
