-- Words and lemmas of the libraries and of this crate that several proofs use.
pub use Rattle.std.proofs.Common.{Bool, List, None, Option, Some, [], add-one, ap, append-nil, append_assoc, arith, cond, false, filter, fold, if◌then◌else◌, inl, inr, length, length-append, map, max, min, mul-le-mul_right, nat_cmp, nat_eq, nat_le, nat_lt, not, option_map, refl, subst, suc, sym, true, unwrap_or, zero, ℕ, ◌%◌, ◌&&◌, ◌*◌, ◌++◌, ◌+◌, ◌-◌, ◌/◌, ◌<◌, ◌==◌, ◌||◌, ◌∙◌, ◌∷◌, ◌≡◌, ◌≢◌, ◌≤◌, ◌⊎◌}
pub use Rattle.std.proofs.lemmas.Bool.{and_parts, and_right, cases_Bool, cases_eq, cases_lt, cond_both, eq-eqb, eqb-false, eqb-true, le-leb, le-ltb, leb-false, leb-true, lt-leb, ne_eqb, not-true, or_cases, or_left, or_right}
pub use Rattle.std.proofs.lemmas.List.Sums.{fold-append}
pub use Rattle.std.proofs.lemmas.Nat.{div-add-mod', mod_below}
pub use Rattle.std.specs.List.{AllByRecursion, list_any}
pub use Rattle.judges.proofs.Instances.{based, layered, stacked}
pub use Rattle.judges.proofs.Members.{each_of, in_filter, in_image, of_image}
pub use Rattle.judges.specs.Out.{crash_tick, Set, after_note, nobody, notes_until, out, with, without}
pub use Rattle.judges.specs.Verdicts.{IsCorrect}
pub use Rattle.process_api.proofs.Contains.{contains-insert_all, contains-remove_is, contains-up_to}
pub use Rattle.process_api.proofs.FreshnessLaws.{contains-suspected, freshness_laws, freshness_opens}
pub use Rattle.process_api.proofs.KeyOrder.{before_by_tick, same_or_not}
pub use Rattle.process_api.proofs.LayerNotes.{changes-none, changes_kept, no_letters, none_of_layer_2, notes_of_layer-append}
pub use Rattle.process_api.proofs.Lists.{always, both, images, weaker}
pub use Rattle.process_api.proofs.Minds.{and_true}
pub use Rattle.process_api.specs.Answer.{notes_of_layer, Answer, still, to_all}
pub use Rattle.process_api.specs.Detector.{ByFreshness, ByTimeout, DetectorState, opening_detector, suspected_by}
unfoldable pub use Rattle.process_api.specs.Detector.{step_detector}
pub use Rattle.process_api.specs.Order.{EntryRecord}
pub use Rattle.process_api.specs.Freshness.{FreshnessState, opening_freshness, step_freshness, suspected}
pub use Rattle.process_api.specs.Mind.{Lower, Mind, suspects_of}
pub use Rattle.process_api.specs.Place.{is_process, numbers_to, others, Place, is_other, is_watched}
pub use Rattle.process_api.specs.React.{react, react_algorithm}
unfoldable pub use Rattle.process_api.specs.React.{react_lower}
pub use Rattle.process_api.specs.Reduction.{ReductionState, gathered, next_share, opening_reduction, step_reduction}
pub use Rattle.process_api.specs.Sets.{Processes, changes, gone, up_to}
pub use Rattle.process_api.specs.Timeout.{TimeoutState, opening_timeout, step_timeout}
pub use Rattle.process_api.specs.declared.action.Action.{Action}
pub use Rattle.process_api.specs.declared.key.Key.{Key}
pub use Rattle.process_api.specs.declared.message.Payload.{Payload}
pub use Rattle.process_api.specs.declared.message.StepInput.{StepInput}
pub use Rattle.process_api.specs.declared.message.Tag.{Tag}
pub use Rattle.process_api.specs.declared.message.Tag.TheVariants.{Beat, Check, Share}
pub use Rattle.process_api.specs.declared.numbers.DetectorNumbers.{DetectorNumbers}
pub use Rattle.process_api.specs.declared.numbers.DetectorNumbers.TheVariants.{Freshness, Timeout}
pub use Rattle.process_api.specs.declared.numbers.FreshnessNumbers.{FreshnessNumbers}
pub use Rattle.process_api.specs.declared.numbers.TimeoutNumbers.{TimeoutNumbers}
pub use Rattle.scenario_record.specs.Ranges.{AreInRange, AreTimeoutInRange, IsInRange}
pub use Rattle.scenario_record.specs.Record.{Record, crash, link, outages_on, place_in}
pub use Rattle.scenario_record.specs.declared.link.Link.{Link}
pub use Rattle.streams.specs.Fate.{fate_by, is_cut, word}
unfoldable pub use Rattle.streams.specs.Fate.{fate_of}
pub use Rattle.streams.specs.declared.fate.Fate.{Fate}
pub use Rattle.streams.specs.declared.fate.Fate.TheVariants.{Delay, Lost}
pub use Rattle.trace_laws.proofs.Closed.{opening_world, starts_are}
pub use Rattle.trace_laws.proofs.Sets.{insert_at, insert_other, least_first, one_input}
pub use Rattle.trace_laws.proofs.Sound.{setting_sound}
pub use Rattle.trace_laws.proofs.Steps.{change_at, change_other, in_append, in_images, in_left, in_right, in_time_is, step_key}
pub use Rattle.trace_laws.proofs.Worlds.{by_receiver, made_sent, process_at, process_other, taken_cases, taken_new, taken_old, taken_world}
pub use Rattle.trace_laws.specs.History.{IsIn}
pub use Rattle.trace_laws.specs.Setting.{setting_of, IsSound, Setting, has_crashed}
pub use Rattle.trace_laws.specs.Step.{Event, Made, Process, added, by_fate, counted, dead, in_time, joining, made_by}
pub use Rattle.trace_laws.specs.World.{Has, IsLeast, IsTrace, IsWorld, NoneBelow, Pair, Run, World, entries, made, opening, start_of, starts, taken}
pub use Rattle.detector_bounds.specs.Bounds.{CrashesAt, HasNoMistake, KeepsBounds, detected_at}
pub use Rattle.detector_bounds.specs.Detected.{detected_by, grown, is_trust, last_letter, longest, trusts, last_before, multiple_from, IsReliable, IsTimely, Watches, watch_of}
pub use Rattle.detector_bounds.specs.Shared.{LosesNothing, SharesDetection, least_delay, most_delay, silent_from, told_at}
