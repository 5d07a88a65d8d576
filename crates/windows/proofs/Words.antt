-- Words and lemmas of the libraries and of this crate that several proofs use.
pub use Rattle.std.proofs.Common.{Contains, Err, IfErr, IfOk, IfSome, IsErrOf, IsTrue, Less, List, MatchOption, None, Ok, OnErr, OnOk, Option, Result, Some, [], ap, append-nil, append_assoc, arith, cond, drop, drop-cons, drop-set-lt, false, filter, get_or, inl, inr, length, length-append, length-drop, map, min, nat_eq, not, option_map, option_to_list, refl, replicate, rules, set, slice_get, slice_set, subst, suc, sym, take, true, vec_len, zero, ℕ, ⊎_elim, ◌*◌, ◌++◌, ◌+◌, ◌-◌, ◌<◌, ◌↔◌, ◌∙◌, ◌∷◌, ◌≡◌, ◌≢◌, ◌≤◌, ◌⊎◌}
pub use Rattle.std.proofs.lemmas.Bool.{cases_eq, cases_lt, eq-eqb, eqb-false, eqb-true, ne_eqb}
pub use Rattle.std.proofs.lemmas.List.{get_or-map, get_or-replicate, get_or-set_other, get_or_past, length-map, length-replicate, length-set, length-take, map-append, map-id, map-set, nil_from_length, take_more}
pub use Rattle.std.proofs.lemmas.List.Concat.{flat_map-append}
pub use Rattle.std.proofs.lemmas.List.Elements.{All-append, All-cons, All-contains, All-drop, All-head, All-map, All-nil, All-pop, All-push, All-rest, All-same, All-tail, All-take, All-weaker, Contains-append_left, Contains-append_right, filter-append}
pub use Rattle.std.proofs.lemmas.List.Filters.{length-filter_both}
pub use Rattle.std.proofs.lemmas.List.Sorted.{All-permutation, Contains-permutation, IsNonDecreasingBy-from_sort_by_key, IsPermutation-append, IsPermutation-append_left, IsPermutation-map, IsPermutation-middle, IsPermutation-push_more, IsPermutation-refl, IsPermutation-sym, IsPermutation-trans, length_permutation}
pub use Rattle.std.proofs.lemmas.Option.{get_or_from_slice_get, slice_get-get_or, slice_get-map, slice_get_cases, slice_get_within}
pub use Rattle.std.proofs.lemmas.Result.{IfErr-at_err, IfErr-weaker, IfOk-at_ok, IfOk-from_err, IfOk-weaker, on_err_weaker, on_ok_weaker}
pub use Rattle.std.specs.Global.{Vec}
pub use Rattle.std.specs.List.{All, AllByRecursion, AllPairs, flat_map, swap}
pub use Rattle.std.specs.List.Sorted.{IsNonDecreasingBy, IsPermutation, SwapsInRange, apply_swaps}
pub use Rattle.std.specs.Option.{is_some, option_or}
pub use Rattle.std.specs.Vec.Iter.{into_iter_items}
pub use Rattle.deques.proofs.Deals.{flat_push, map_push, map_turn}
pub use Rattle.deques.specs.Deques.{DequeId, HandView, IsDealt, RestView, TookOne, all_put, deques_of}
pub use Rattle.mailboxes.specs.Mailboxes.{MailboxId, earlier_of, soonest_in, IsSlipOf, MailboxesView, SlipView, filed, list_of, mailboxes_of, posted_to, slip_of, unused, with_lists}
pub use Rattle.pending_events.specs.Pending.{IsEmpty, IsLeastTick}
pub use Rattle.process_api.proofs.KeyOrder.{before_or_not, exact_keys, keys_total, same_or_not, ticks_rise}
pub use Rattle.process_api.proofs.Lists.{both, weaker}
pub use Rattle.process_api.specs.Place.{most_step_actions, numbers_to}
pub use Rattle.process_api.specs.Order.{EntryRecord, is_rising, key_cmp}
pub use Rattle.process_api.specs.Mind.{Mind}
pub use Rattle.process_api.specs.declared.key.Key.{Key}
pub use Rattle.process_api.specs.declared.message.Letter.{Letter}
pub use Rattle.process_api.specs.declared.message.StepInput.{StepInput}
pub use Rattle.process_api.specs.declared.run_error.RunError.{RunError}
pub use Rattle.process_api.specs.declared.run_error.RunError.TheVariants.{Limit, Memory, Spawn}
pub use Rattle.scenario_record.specs.Ranges.{IsInRange}
pub use Rattle.scenario_record.specs.Record.{Record, opening_mind, place_in}
pub use Rattle.steps.proofs.Openings.{length-numbers_to, machines_open, number_at}
pub use Rattle.steps.specs.Seat.{IsMindIn, IsSeated, own_of, process_of}
pub use Rattle.trace_laws.proofs.Closed.{closed_of_run, one_trace, opening_world, starts_are, trace_rises}
pub use Rattle.trace_laws.proofs.Joining.{joined_one}
pub use Rattle.trace_laws.proofs.Pairs.{in_pairs, pairs_other}
pub use Rattle.trace_laws.proofs.Reaching.{opening_reached, reached_end, reached_front, reached_next}
pub use Rattle.trace_laws.proofs.Runs.{least_below}
pub use Rattle.trace_laws.proofs.Sets.{insert_at, insert_other, inserted, joined_cases, not_None, one_input, remove_at, remove_other, removed, same_Some, same_events}
pub use Rattle.trace_laws.proofs.Sound.{opens_with_mind, setting_sound}
pub use Rattle.trace_laws.proofs.Steps.{in_append, in_left, in_right}
pub use Rattle.trace_laws.specs.History.{IsIn, Pair, pairs_of}
pub use Rattle.trace_laws.specs.Setting.{setting_of, IsProcess, IsSound, Setting}
pub use Rattle.trace_laws.specs.Step.{Event, Events, Process, step}
pub use Rattle.trace_laws.specs.Taken.{event_of}
pub use Rattle.trace_laws.specs.World.{Has, IsLeast, IsTrace, IsWorld, NoneBelow, Run, World, entries, joined, opened, opening, opening_process, start_of, starts, taken}
pub use Rattle.trace_merge.proofs.Exists.{has_merge, nothing_merges}
pub use Rattle.trace_merge.specs.Parts.{AreDisjoint, IsMergeOf, all_of}
pub use Rattle.window_laws.proofs.Berths.{BerthStands, berth_ends, berth_longer, berth_next, berth_opens}
pub use Rattle.window_laws.proofs.Family.{is_or_not}
pub use Rattle.window_laws.proofs.Together.{berths_run, h_stands}
pub use Rattle.window_laws.proofs.Unions.{filter_in, in_filter, in_map, joined_back, map_in}
pub use Rattle.window_laws.proofs.Whole.{one_merge, windows_trace}
pub use Rattle.window_laws.specs.Machine.{Act, IsRun, StageRecord, StandsFor, end_of, first_status, for_others, for_self, AreBerths, BerthRun, IsPosted, IsSameStage}
pub use Rattle.window_laws.specs.Theorems.{IsMerge, end_to_end}
pub use Rattle.windows.specs.Berth.{IsBerth, all_filed, most_in_part, with_letters}
pub use Rattle.windows.specs.Inside.Agenda.{AreFrom, AreLists, AreOne, IsParted, all_ahead, all_in, first_tick, in_box}
pub use Rattle.windows.specs.Inside.Closing.{HasNextWindow, IsClosed, IsNextWindow, delivered, kept_in, AreParts, IsMerged, TookAllBut, TookFrontOf}
pub use Rattle.windows.specs.Inside.Outbox.{made_in}
pub use Rattle.windows.specs.Inside.Workers.{AreAnswers, ArePosting, AreReady, IsAnswerTo, IsOneTooLong, IsStart, IsWorkBy, IsWorkIn, AreRun, AreRunBy, BringsTogether, HasLong, IsFresh, IsOutcome, IsReady, IsRest, IsSent, IsStay, IsWork, RiseBy, Stay, given_to, is_to, left_in, sent_in, stay, taken_in}
pub use Rattle.windows.specs.Plan.{IsPlanFor, PlanRecord}
pub use Rattle.windows.specs.Stage.{AreThere, IsFirstRefusal, IsOverLimit, IsRefusal, IsRefusalOfOne, AreHome, IsCountOfWorkers, IsNextStart, IsOpened, IsStage, IsStageAfter, IsWindowRun, of_process, stage_of, start_event, IsRefusalOfSink, TookAll, TookClosed, TookFront, TookTrace, writes_of}
pub use Rattle.windows.specs.declared.berth.Berth.{Berth}
pub use Rattle.windows.specs.declared.stage.Stage.{Stage}
pub use Rattle.windows.specs.declared.workers.Start.{Start}
pub use Rattle.windows.specs.declared.workers.Work.{Work}
