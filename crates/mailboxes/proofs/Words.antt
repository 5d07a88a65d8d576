-- Words and lemmas of the libraries and of this crate that several proofs use.
pub use Rattle.std.proofs.Common.{List, None, Option, Some, [], add-one, ap, append-nil, append_assoc, arith, drop, get_or, length, length-append, map, min, refl, replicate, reverse, rules, set, subst, suc, sym, take, vec_capacity, vec_len, zero, ℕ, ◌++◌, ◌+◌, ◌-◌, ◌<◌, ◌∙◌, ◌∷◌, ◌≡◌, ◌≢◌, ◌≤◌}
pub use Rattle.std.proofs.lemmas.List.{drop_all, get_or-map, length-map, length-set, map-append, map-id, map-set, nil_from_length, replicate_more, set-get_or, take_all, take_more_set}
pub use Rattle.std.proofs.lemmas.List.Elements.{All-cons, All-get_or, All-head, All-map, All-nil, All-push, All-same, All-tail, All-weaker}
pub use Rattle.std.proofs.lemmas.Result.{on_ok_weaker}
pub use Rattle.std.proofs.lemmas.Simd.{map-map, splat_is_map}
pub use Rattle.std.specs.Global.{Vec}
pub use Rattle.std.specs.List.{All, flat_map}
pub use Rattle.std.specs.List.Sorted.{IsPermutation}
pub use Rattle.std.specs.Prelude.{Err, Ok, OnOk, Result}
pub use Rattle.std.specs.Vec.Iter.{drain_items, drain_kept, into_iter_items}
pub use Rattle.crossbeam_queue.specs.SegBatches.{Holds}
pub use Rattle.crossbeam_queue.specs.SegTies.{IsSegPassOf}
pub use Rattle.ledger.proofs.Ledgers.{admits, learns, merges, opens, puts, settles, splits, takes}
pub use Rattle.ledger.proofs.Lists.{Shuffled, Shuffled-next, Shuffled-refl, below_parts, length_more, map_take_more, mixed_at, mixed_more, parts_agree, turn_at, turn_more, with-length, with-map, with-nil}
pub use Rattle.ledger.specs.Ledger.{account, has_put, has_taken, each_with}
pub use Rattle.ledger.specs.declared.account.Account.{Account}
pub use Rattle.process_api.specs.declared.key.Key.{Key}
pub use Rattle.process_api.specs.declared.message.Letter.{Letter}
pub use Rattle.mailboxes.specs.Mailboxes.{HomeView, MailboxId, TicketView, all_back, earlier_of, home_of, homes_of, one_back, one_out, soonest_in, ticket_of, IsSlipOf, MailboxesView, SlipView, letters_in, slip_of, unused}
