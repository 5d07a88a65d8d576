-- Words and lemmas of the libraries and of this crate that several proofs use.
pub use Rattle.std.proofs.Common.{Bool, Err, IfErr, IfOk, Less, List, None, Ok, OnOk, Option, Result, Some, [], ap, append-nil, arith, cond, count_by, eqb, false, filter, get_or, inl, inr, length, length-append, map, min, nat_le, not, refl, rules, set, subst, suc, sym, take, true, true≢false, unwrap_or, vec_len, zero, ℕ, ◌%◌, ◌&&◌, ◌*◌, ◌++◌, ◌+◌, ◌-◌, ◌/◌, ◌<◌, ◌==◌, ◌^◌, ◌∙◌, ◌∷◌, ◌≡◌, ◌≢◌, ◌≤◌, ◌⊎◌}
pub use Rattle.std.proofs.lemmas.Bool.{cases_Bool, cases_eq, cond-false, cond-true, cond_both, eq-eqb, eqb-false, eqb-true, le-ltb, leb-false, lt-leb, lt-ltb, ne_eqb}
pub use Rattle.std.proofs.lemmas.List.{get_or-set_other, get_or-set_same, length-set, nil_from_length, take_all, take_more, with_items_is}
pub use Rattle.std.proofs.lemmas.List.Elements.{All-from_recursion, filter-append}
pub use Rattle.std.proofs.lemmas.List.Sums.{sum_by-append, sum_by-cons}
pub use Rattle.std.specs.List.{All, AllByRecursion, flat_map, range_with_len}
pub use Rattle.detector_bounds.specs.Bounds.{CrashesAt, KeepsBounds, detected_at}
pub use Rattle.detector_bounds.specs.Detected.{is_trust, trusts}
pub use Rattle.judges.proofs.Agreement.Agreed.{agrees}
pub use Rattle.judges.proofs.Blamed.{blamed_by_out, shares_suspicions}
pub use Rattle.judges.proofs.Lasting.{all_from-at, all_from-from}
pub use Rattle.judges.specs.Agreement.{Agree}
pub use Rattle.judges.specs.Out.{crash_tick, end_of, is_correct, is_crashed, suspects}
pub use Rattle.judges.specs.Track.{all_from, first_of, least_below, least_from}
pub use Rattle.process_api.proofs.Lists.{always, both, images, weaker}
pub use Rattle.process_api.proofs.Minds.{and_true, both_true}
pub use Rattle.process_api.specs.Order.{EntryRecord}
pub use Rattle.process_api.specs.declared.action.Action.{Action}
pub use Rattle.process_api.specs.declared.key.Key.{Key}
pub use Rattle.process_api.specs.declared.message.StepInput.{StepInput}
pub use Rattle.reporting.proofs.Followed.{measuring_same, measuring_told, recording_same, recording_told}
pub use Rattle.reporting.specs.Measures.{count_below, delay_after, detection, is_measured, layers, measured, starts}
unfoldable pub use Rattle.reporting.specs.Measures.{all_measures, layer_measures, pair_measures}
pub use Rattle.reporting.specs.declared.letter.Letter.{Letter}
pub use Rattle.reporting.specs.declared.pair_measures.Detection.TheVariants.{At, Na}
pub use Rattle.scenario_record.specs.Ranges.{IsInRange}
pub use Rattle.scenario_record.specs.Record.{Record}
pub use Rattle.steps.specs.Posting.{Posted, posted_along, posted_by, posted_in, posting}
pub use Rattle.streams.specs.declared.fate.Fate.{Fate}
pub use Rattle.trace_laws.proofs.Closed.{closed_of_run, opening_world, starts_are, trace_is_closed}
pub use Rattle.trace_laws.proofs.Runs.{one_run}
pub use Rattle.trace_laws.proofs.Sound.{setting_sound}
pub use Rattle.trace_laws.proofs.Steps.{in_append, in_images, in_left, in_right, in_time_is, of_images}
pub use Rattle.trace_laws.specs.History.{IsIn}
pub use Rattle.trace_laws.specs.Setting.{setting_of, IsSound, Setting, has_crashed}
pub use Rattle.trace_laws.specs.Step.{Event, Made, Process, added, by_fate, counted, counts_after, dead, in_time, joining, kind_of, kind_of_payload, made_by, raised, step}
pub use Rattle.trace_laws.specs.World.{Has, IsTrace, IsWorld, Run, World, entries, opening, taken}
pub use Rattle.runs.specs.Grounds.{HasBlame, HasGrounds, IsBounded, KeepsToBounds, RestsOnBlame}
pub use Rattle.runs.specs.Letters.{AreInOrder, AreInTrace, AreLetters, AreLostAs, AreNumbered, IsEntryOf, IsNotAfter, due_of, fate_of, is_lost, letter_of, numbers_on}
pub use Rattle.runs.specs.Finishing.{AreCounts, most_trusts}
