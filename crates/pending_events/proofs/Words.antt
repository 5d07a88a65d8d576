-- Words and lemmas of the libraries and of this crate that several proofs use.
pub use Rattle.std.proofs.Common.{All, Bool, Err, Less, List, MatchOption, None, Ok, OnErr, OnOk, Option, Result, Some, [], ap, append_assoc, arith, cond, false, get_or, inl, inr, length, length-append, map, min, nat_eq, nat_le, nat_lt, refl, reverse, rules, slice_set, subst, suc, sym, true, true≢false, vec_capacity, vec_len, zero, ℕ, ◌%◌, ◌&&◌, ◌++◌, ◌+◌, ◌-◌, ◌/◌, ◌<◌, ◌∙◌, ◌∷◌, ◌≡◌, ◌≢◌, ◌≤◌, ◌⊎◌}
pub use Rattle.std.proofs.Math.ListN.{drop, get_or-append, take}
pub use Rattle.std.proofs.Math.Seq.{drop-cons, get_or-append_seam, split_at, take-suc}
pub use Rattle.std.proofs.lemmas.Bool.{cases_eq, cases_lt}
pub use Rattle.std.proofs.lemmas.Bool.Decides.{nat_tests}
pub use Rattle.std.proofs.lemmas.List.{drop_at, get_or-map, get_or-set_other, get_or-set_same, get_or_default, length-map, length-reverse, length-set, length-take-le, map-append, map-set, nil_from_length, reverse-append, set_at, take-append-drop, take_at}
pub use Rattle.std.proofs.lemmas.List.Elements.{All-from_recursion, All-head, All-tail}
pub use Rattle.std.specs.FinMap.{find}
pub use Rattle.std.specs.List.{AllByRecursion, insert, list_any}
unfoldable pub use Rattle.std.specs.List.{IsDistinct}
pub use Rattle.std.specs.Option.{option_or}
pub use Rattle.std.specs.Ordering.{eq_by_cmp}
pub use Rattle.std.specs.declared.alloc.AllocError.{AllocError}
pub use Rattle.process_api.proofs.KeyOrder.{exact_keys, keys_total, not_before_itself, not_both, same_or_not, ticks_rise}
pub use Rattle.process_api.proofs.Lists.{both, images, weaker}
pub use Rattle.process_api.specs.Order.{is_before, key_cmp}
pub use Rattle.process_api.specs.declared.key.Key.{Key}
pub use Rattle.process_api.specs.declared.message.StepInput.{StepInput}
pub use Rattle.trace_laws.proofs.Joining.{joined_one}
pub use Rattle.trace_laws.proofs.Rising.{less_is}
pub use Rattle.trace_laws.proofs.Sets.{apart, insert_at, insert_other, inserted, not_None, remove_at, remove_other, removed, tie, tied}
pub use Rattle.trace_laws.specs.Step.{Event, Events}
pub use Rattle.trace_laws.specs.World.{IsLeast, joined}
pub use Rattle.pending_events.specs.Inside.Calendar.{Buckets, IsCleared, IsFull, IsPut, bucket, came, latest, IsCalendar, IsFirst, IsParted, IsTaken, IsVacant, NoneAhead, ahead, all_in, due, found, lane, AreWithin, FallsStrictly, IsPlaceOf, IsRow, event_at, events_at, first, no_event, row}
unfoldable pub use Rattle.pending_events.specs.Inside.Calendar.{due_before}
pub use Rattle.pending_events.specs.Pending.{IsEmpty}
pub use Rattle.pending_events.specs.declared.calendar.Calendar.{Calendar}
