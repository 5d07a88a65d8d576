-- Words and lemmas of the libraries and of this crate that several proofs use.
pub use Rattle.std.proofs.Common.{Bool, Equal, Greater, IsTrue, Less, List, None, Option, Ordering, Some, [], add-one, ap, append-nil, append_assoc, arith, cond, drop, eqb, false, fold, get_or, if◌then◌else◌, inl, inr, is_some, leb, length, length-append, ltb, map, max, min, nat_eq, nat_le, nat_lt, not, refl, rules, set, subst, suc, sym, take, true, unwrap_or, vec_len, zero, ℕ, ◌%◌, ◌&&◌, ◌*◌, ◌++◌, ◌+◌, ◌-◌, ◌/◌, ◌<◌, ◌==◌, ◌||◌, ◌∙◌, ◌∷◌, ◌≡◌, ◌≢◌, ◌≤◌, ◌⊎◌}
pub use Rattle.std.proofs.Math.Bool.{and-true, not-not, or-false, or-true}
pub use Rattle.std.proofs.lemmas.Bool.{and_from, and_left, and_parts, and_right, both_ways, cases_Bool, cases_eq, cases_lt, cases_order, cond-false, cond-true, cond_both, eq-eqb, eqb-true, false_from_ne_true, false≢true, le-leb, le-ltb, leb-false, leb-true, lt-leb, lt-ltb, ltb-false, ltb-true, ne_eqb, not-true, not_from_false, or_cases, or_left, or_parts, or_right, true≢false}
pub use Rattle.std.proofs.lemmas.Bool.Decides.{nat_tests}
pub use Rattle.std.proofs.lemmas.Grind.{common_steps, flat_map-append}
pub use Rattle.std.proofs.lemmas.List.{get_or-append_right, get_or-set_other, get_or-set_same, get_or_append_left, get_or_default, get_or_push, length-map, length-set, map-append, nil_from_length, same_lists, take-append-drop, take_all, take_more, with_items_is}
pub use Rattle.std.proofs.lemmas.List.Folds.{list_all-append}
pub use Rattle.std.proofs.lemmas.List.Sums.{fold-append, fold_push}
pub use Rattle.std.proofs.lemmas.Nat.{div-mul-add, mod-mul-add, mul-add-lt}
pub use Rattle.std.proofs.lemmas.Option.{same_Some}
pub use Rattle.std.specs.List.{AllByRecursion, filter, find, list_all}
pub use mathlib.Core.Bool.{beq}
pub use Rattle.process_api.proofs.KeyOrder.{keys_total, ticks_rise}
pub use Rattle.process_api.proofs.Lists.{always, both, images, numbers_are, weaker}
pub use Rattle.process_api.specs.Answer.{Answer, after, still, to_all}
pub use Rattle.process_api.specs.BaseDetector.{IsDetectorStep, IsOfDetector}
pub use Rattle.process_api.specs.Coordinator.{Coordinator, Kept, adopt, await, begin, best_to, better, collect, deliver, end_wait, end_waits, enter, from_round, is_decided, is_early, is_opening, is_timely, keep, leave, opening_coordinator, propose, receive, reply, settle, step_coordinator, tally, waits_left, broadcast, relay, coordinator, count_to, majority}
pub use Rattle.process_api.specs.Order.{EntryRecord, is_before, is_less, is_rising, key_cmp}
pub use Rattle.process_api.specs.Mind.{AlgorithmState, Coordinating, Exchanging, Idle, Lower, Mind, is_mind_at, stands_at, suspects_of}
pub use Rattle.process_api.specs.Place.{change, is_process, numbers_to, Place}
unfoldable pub use Rattle.process_api.specs.React.{react, react_algorithm, react_lower}
pub use Rattle.process_api.specs.Reduction.{ReductionState, gathered, next_share, step_reduction}
pub use Rattle.process_api.specs.Sets.{Processes}
pub use Rattle.process_api.specs.declared.action.Action.{Action}
pub use Rattle.process_api.specs.declared.action.Note.TheVariants.{Decided, NoValue, Round, Suspect, Trust}
pub use Rattle.process_api.specs.declared.consensus.Estimate.{Estimate}
pub use Rattle.process_api.specs.declared.consensus.Phase.{Phase}
pub use Rattle.process_api.specs.declared.consensus.Phase.TheVariants.{Await, Collect, Ended, Opening, Tally}
pub use Rattle.process_api.specs.declared.key.Key.{Key}
pub use Rattle.process_api.specs.declared.message.Payload.{Payload}
pub use Rattle.process_api.specs.declared.message.StepInput.{StepInput}
pub use Rattle.scenario_record.specs.Ranges.{IsInRange}
pub use Rattle.scenario_record.specs.Record.{Record, opening_algorithm, place_in, proposal}
pub use Rattle.trace_laws.proofs.Closed.{opening_world, trace_rises}
pub use Rattle.trace_laws.proofs.Sound.{setting_sound}
pub use Rattle.trace_laws.proofs.Steps.{change_at, change_other, in_append, in_left, in_right}
pub use Rattle.trace_laws.proofs.Worlds.{process_at, process_other, taken_cases, taken_world}
pub use Rattle.trace_laws.specs.History.{IsIn}
pub use Rattle.trace_laws.specs.Setting.{setting_of, Setting}
pub use Rattle.trace_laws.specs.Step.{Event, Made, added, by_fate, counted, dead, in_time, joining, made_by}
pub use Rattle.trace_laws.specs.World.{Has, IsTrace, start_of, starts}
pub use Rattle.judges.specs.Agreement.{Agree, Agrees, DecidesOnce, answers_of}
pub use Rattle.judges.specs.Out.{crash_tick, end_of, is_correct, is_crashed, is_up, Set, after_note, nobody, notes_until, out, suspects, with, without}
pub use Rattle.judges.specs.Inside.Private.{AreEnds, opened_at, Knows}
pub use Rattle.judges.specs.Turns.{end_tick, AreTurned, all_turned, kept_at, opened, turned, Turn, entry_turns, noted_turns, turn_of, turns, turns_at}
pub use Rattle.judges.specs.Pairs.{AreFrom, ArePairs, fed, IsJudging}
pub use Rattle.judges.specs.Verdicts.{column_right, column_suspected, column_trusted, counts_as_correct, grid_verdicts, pair, place, row_right, row_suspected, row_trusted, AreVerdicts, each, eventual_strong_accuracy, eventual_weak_accuracy, some, strong_accuracy, strong_completeness, verdicts, weak_accuracy, weak_completeness}
pub use Rattle.judges.specs.Inside.Noting.{all_noted}
pub use Rattle.judges.specs.Outcomes.{is_answer, notes_of, outcome, outcomes, timed, value_of}
pub use Rattle.judges.specs.Track.{all_below, all_from, any_below, before, first_of, least_below, IsReached, earliest, earliest_below, latest, latest_below, new_track, passed, reached, suspected_from, trusted_from}
pub use Rattle.judges.specs.declared.outcomes.Outcome.{Outcome}
pub use Rattle.judges.specs.declared.pairs.Pairs.{Pairs}
pub use Rattle.judges.specs.declared.track.Track.{Track}
