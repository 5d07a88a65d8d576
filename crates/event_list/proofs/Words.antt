-- Words and lemmas of the libraries and of this crate that several proofs use.
pub use Rattle.std.proofs.Common.{List, Some, [], add-one, ap, append-nil, append_assoc, arith, get_or, length, map, option_map, refl, rules, slice_get, slice_set, subst, suc, sym, vec_len, zero, ℕ, ◌*◌, ◌++◌, ◌+◌, ◌-◌, ◌<◌, ◌∙◌, ◌∷◌, ◌≡◌, ◌≢◌, ◌≤◌}
pub use Rattle.std.proofs.lemmas.List.{get_or-map, get_or-set_same, length-map, length-set, length_push, map-append, map-set, nil_from_length}
pub use Rattle.std.proofs.lemmas.List.Elements.{All-get_or, All-nil, All-push, All-rest, All-same, All-set, All-weaker}
pub use Rattle.std.proofs.lemmas.Option.{MatchOption-at_none, MatchOption-at_some, get_or_from_slice_get, slice_get-get_or, slice_get-map, slice_get_read, slice_get_within}
pub use Rattle.std.specs.List.{All}
pub use Rattle.std.specs.Prelude.{IsTrue, take}
pub use Rattle.std.specs.Vec.Iter.{into_iter_items}
pub use Rattle.process_api.specs.Place.{most_step_actions, numbers_to}
pub use Rattle.process_api.specs.Order.{EntryRecord}
pub use Rattle.process_api.specs.Mind.{Mind}
pub use Rattle.scenario_record.specs.Record.{Record, opening_mind, place_in}
pub use Rattle.steps.proofs.Openings.{length-numbers_to, machines_open, number_at}
pub use Rattle.steps.specs.Posting.{ArePosted, Posted, posted_along, posted_in}
pub use Rattle.steps.specs.Seat.{IsMindIn, IsSeated, process_of}
pub use Rattle.trace_laws.proofs.Closed.{has_one_trace, only_history, opening_world, trace_is_closed, trace_rises}
pub use Rattle.trace_laws.proofs.Reaching.{opening_reached, reached_end, reached_front, reached_longer, reached_next}
pub use Rattle.trace_laws.proofs.Sound.{setting_sound}
pub use Rattle.trace_laws.proofs.Worlds.{by_receiver, taken_world}
pub use Rattle.trace_laws.specs.Taken.{HaveJoined}
pub use Rattle.trace_laws.specs.Setting.{setting_of, IsProcess, IsSound, Setting}
pub use Rattle.trace_laws.specs.Step.{Events, Process, step}
pub use Rattle.trace_laws.specs.World.{Has, IsLeast, IsTrace, NoneBelow, World, joined, made, opened, opening, start_of, starts, taken}
pub use Rattle.event_list.specs.Inside.Standing.{HasPosted, IsStepped, Stands}
