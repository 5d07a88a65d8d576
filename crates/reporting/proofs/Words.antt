-- Words and lemmas of the libraries and of this crate that several proofs use.
pub use Rattle.std.proofs.Common.{Bool, List, None, Option, Some, [], add-one, ap, append-nil, append_assoc, arith, cond, decimal, drop, eqb, false, get_or, inl, inr, is_some, leb, length, length-append, length-drop, ltb, map, min, not, refl, rules, set, subst, suc, sum, sym, take, true, unwrap_or, vec_len, zero, ℕ, ◌%◌, ◌&&◌, ◌*◌, ◌++◌, ◌+◌, ◌-◌, ◌/◌, ◌<◌, ◌^◌, ◌||◌, ◌∙◌, ◌∷◌, ◌≡◌, ◌≢◌, ◌≤◌, ◌⊎◌}
pub use Rattle.std.proofs.KnownBytes.{Appends-nil, Appends-trans}
pub use Rattle.std.proofs.Math.Nat.{mod-add-div', mul-le-mul_right, suc-mul}
pub use Rattle.std.proofs.Math.Seq.{drop-cons, take-add, take-append-add, take-suc}
pub use Rattle.std.proofs.lemmas.Bool.{and_from, and_left, and_parts, and_right, both_ways, cases_eq, cases_lt, cond-false, cond-true, cond_both, eq-eqb, eqb-true, false_from_ne_true, le-leb, le-ltb, leb-true, lt-leb, lt-ltb, ltb-true, ne_eqb, not-true, not_from_false, or_cases, or_left, or_right, true≢false}
pub use Rattle.std.proofs.lemmas.Bool.Decides.{nat_tests}
pub use Rattle.std.proofs.lemmas.Fmt.{decimal_by_steps, length-decimal-le}
pub use Rattle.std.proofs.lemmas.Grind.{common_steps, flat_map-append, get_or-set_at}
pub use Rattle.std.proofs.lemmas.List.{get_or-map, get_or-set_other, length-map, length-set, map-append, map-set, nil_from_length, take-append-drop, take_all, with_items_is}
pub use Rattle.std.specs.Global.{Vec}
pub use Rattle.std.specs.Io.KnownBytes.{Appends}
pub use Rattle.std.specs.List.{flat_map, join_with_byte, sum_by}
pub use mathlib.Core.Bool.{beq}
pub use Rattle.csv.specs.Writing.{default_writer, field_text, needs_byte, row_text, writer_setup}
unfoldable pub use Rattle.csv.specs.Writing.{fields_text, is_blank}
pub use Rattle.judges.proofs.Entering.{fed_more, pairs_quiet}
pub use Rattle.judges.proofs.Standing.{IsKeeping, IsKnown, fed_known, shown, shown_all}
pub use Rattle.judges.proofs.Turns.{in_order_more, turns_late, turns_other, turns_own, turns_quiet}
pub use Rattle.judges.specs.Out.{crash_tick, end_of, suspects}
pub use Rattle.judges.specs.Turns.{all_turned, kept_at, opened, turned, Turn, entry_turns, noted_turns, turn_of, turns, turns_at}
pub use Rattle.judges.specs.Pairs.{AreFrom, ArePairs, fed}
pub use Rattle.judges.specs.Verdicts.{verdicts}
pub use Rattle.judges.specs.declared.pair.Pair.{Pair}
pub use Rattle.judges.specs.declared.pairs.Pairs.{Pairs}
pub use Rattle.process_api.proofs.Where.{same_where, then_where, there_where}
pub use Rattle.process_api.specs.Order.{EntryRecord}
pub use Rattle.process_api.specs.Answer.{HasFollowedWhere, IsWhere}
pub use Rattle.process_api.specs.Place.{numbers_to, others}
pub use Rattle.process_api.specs.declared.action.Note.{Note}
pub use Rattle.scenario_record.specs.Record.{Record}
pub use Rattle.reporting.specs.Measures.{count_below, count_of_distances, distances, is_next, list_below, over_distances, sum_below, sum_of_distances, delay_after, ends, is_measured, layers, measured, pair_durations, second_measures, starts}
pub use Rattle.reporting.specs.Durations.{AreCaught, AreDurations, AreFollowing, caught, lengths_so_far, listed, lists_in, pair_at, tally_at, ticks_between}
pub use Rattle.reporting.specs.Inside.Findings.{second_text, front_of, rows_about, value_text}
unfoldable pub use Rattle.reporting.specs.Inside.Findings.{found_text}
pub use Rattle.reporting.specs.Inside.Plain.{ArePlain, IsPlain}
pub use Rattle.reporting.specs.Rows.{kind_text, IsBetweenRows, plain_writer, text_of, written}
pub use Rattle.reporting.specs.LayerPairs.{closed_row, closed_rows, metered, pair}
unfoldable pub use Rattle.reporting.specs.Measures.{all_measures, layer_measures, pair_measures}
pub use Rattle.reporting.specs.Meter.{closed, crash_between}
pub use Rattle.reporting.specs.ReportText.{items_of, prints_report, prints_trace, Text, decision_text, decisions_text, run_text, verdict_text}
unfoldable pub use Rattle.reporting.specs.ReportText.{pair_text, report_header, report_row, report_rows, report_text}
unfoldable pub use Rattle.reporting.specs.Rows.{row_of}
pub use Rattle.reporting.specs.Running.{AreLayers, IsCounting, IsLayer, IsMeasuring, IsRecording, IsRunning, IsSecond, IsSumming, IsTextWhere, LayerFollowed, LayersFollowed, Running, RunningFollowed, SummingFollowed}
pub use Rattle.reporting.specs.Tally.{changed, counted, detected, gain, grown, moved, new_tally, passed, told, tracked}
pub use Rattle.reporting.specs.TraceText.{Holds, note_text, rows_text, trace_header}
unfoldable pub use Rattle.reporting.specs.TraceText.{notes_text, trace_text}
pub use Rattle.reporting.specs.Outlet.{Wrote, WrotePart}
pub use Rattle.reporting.specs.declared.counts.Counts.{Counts}
pub use Rattle.reporting.specs.declared.pair_measures.Detection.TheVariants.{At, Na, NoTick}
pub use Rattle.reporting.specs.declared.tally.Tally.{Tally}
