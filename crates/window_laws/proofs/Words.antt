-- Words and lemmas of the libraries and of this crate that several proofs use.
pub use Rattle.std.proofs.Common.{Bool, Equal, Greater, Less, List, Ordering, Some, T, [], ap, append-nil, append_assoc, arith, cond, false, filter, inl, inr, is_eq, is_lt, length, map, nat_eq, nat_lt, not, refl, subst, suc, sym, true, true≢false, zero, ℕ, ⊎_elim, ◌&&◌, ◌++◌, ◌+◌, ◌<◌, ◌↔◌, ◌∙◌, ◌∷◌, ◌≡◌, ◌≢◌, ◌≤◌, ◌⊎◌}
pub use Rattle.std.proofs.lemmas.Bool.{cases_eq, cases_lt, eq-eqb, eqb-false, eqb-true, ltb-false, ne_eqb, not-true, or_parts}
pub use Rattle.std.proofs.lemmas.List.{length-map, map-append}
pub use Rattle.std.specs.List.{list_all, list_any}
pub use Rattle.pending_events.specs.Pending.{IsEmpty}
pub use Rattle.process_api.proofs.KeyOrder.{exact_keys, keys_total, not_before_itself, not_both, same_or_not, ticks_rise}
pub use Rattle.process_api.specs.Order.{EntryRecord, is_before, is_less, is_rising, key_cmp}
pub use Rattle.process_api.specs.Place.{change}
pub use Rattle.process_api.specs.declared.key.Key.{Key}
pub use Rattle.process_api.specs.declared.message.StepInput.{StepInput}
pub use Rattle.trace_laws.proofs.Closed.{closed_of_run, opening_world}
pub use Rattle.trace_laws.proofs.Pairs.{cause, in_pairs, pairs_here, pairs_in, pairs_other}
pub use Rattle.trace_laws.proofs.Runs.{RunSoFar, one_run, run_exists, so_far_more, so_far_over, so_far_then}
pub use Rattle.trace_laws.proofs.Sets.{AreApart, apart, insert_at, insert_other, inserted, joined_cases, least_is_one, not_None, one_input, removed, removed_back, same_Some, same_events, tie}
pub use Rattle.trace_laws.proofs.Steps.{change_at, change_other, in_append, in_left, in_right, step_key}
pub use Rattle.trace_laws.proofs.Worlds.{made_sent, process_at, process_other, taken_cases, taken_new, taken_old, taken_world}
pub use Rattle.trace_laws.specs.History.{IsIn}
pub use Rattle.trace_laws.specs.Setting.{IsProcess, IsSound, Setting}
pub use Rattle.trace_laws.specs.Step.{Event, Events, Made, Process, step}
pub use Rattle.trace_laws.specs.World.{Has, IsLeast, IsTrace, IsWorld, NoneBelow, Run, World, entries, joined, made, opening, taken}
pub use Rattle.window_laws.specs.Machine.{Act, Close, Done, Held, HoldsNoWork, IsRun, Moves, Post, Return, StageRecord, StandsFor, Status, Take, Turn, Waiting, closed, end_of, first_status, for_others, for_self, gathered, has_below, posted, turned, with_status, AreBerths, BerthRun, IsPosted, IsSameStage}
pub use Rattle.window_laws.specs.Theorems.{AreAlike, IsListRun, IsMerge, Windows, end_to_end, turns_of}
