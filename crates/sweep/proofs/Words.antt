-- Words and lemmas of the libraries and of this crate that several proofs use.
pub use Rattle.std.proofs.Common.{Bool, Bor, Err, IfErr, IfOk, List, None, Ok, OnOk, Option, Result, Some, String, [], add-one, ap, append-nil, append_assoc, arith, below_more, cond, drop, false, get_or, inl, inr, is_some, le-leb, le_trans, length, length-append, lit<, map, max, min, nat_le, nat_lt, not, refl, rules, set, string_bytes, subst, suc, sum, sym, take, tests, true, true≢false, unwrap_or, vec_len, zero, zero-add, ℕ, ⊎_elim, ◌%◌, ◌&&◌, ◌*◌, ◌++◌, ◌+◌, ◌-◌, ◌/◌, ◌<◌, ◌==◌, ◌^◌, ◌||◌, ◌∙◌, ◌∷◌, ◌≡◌, ◌≢◌, ◌≤◌, ◌⊎◌}
pub use Rattle.std.proofs.Math.Nat.{lt_of_mul-lt-mul_right, mul-le-mul_left, mul-le-mul_right, mul-sub, mul_comm}
pub use Rattle.std.proofs.Math.Seq.{drop-append_seam, get_or-append_seam, take-append_seam, take-length}
pub use Rattle.std.proofs.lemmas.Bool.{cases_eq, cases_lt, eq-eqb, eqb-true, le-ltb, leb-false, leb-true, lt-leb, lt-ltb, ltb-false, ltb-true, ne_eqb}
pub use Rattle.std.proofs.lemmas.Grind.{flat_map-append}
pub use Rattle.std.proofs.lemmas.Iterator.{YieldsList-from_range, YieldsList-from_slice, items_from_collect}
pub use Rattle.std.proofs.lemmas.List.{drop_more, get_or-map, get_or-set_other, get_or-set_same, get_or_append_left, get_or_default, length-map, length-set, length-take, length_push, map-append, map_more, map_push, take-append-drop, take_more}
pub use Rattle.std.proofs.lemmas.List.Elements.{All-append, All-cons, All-filter, All-from_recursion, All-head, All-nil, All-rest, All-tail, All-take, filter-append, filter_map-append}
pub use Rattle.std.proofs.lemmas.List.Folds.{list_any-append, list_any_at, list_any_none}
pub use Rattle.std.proofs.lemmas.List.FromFn.{get_or-range_with_len, length-range_with_len}
pub use Rattle.std.proofs.lemmas.List.Sums.{count_by-le-length, length-filter, position_or_len_is, sum_by-append, sum_by-cons, sum_by-le, sum_by_push}
pub use Rattle.std.proofs.lemmas.Nat.{div-add-mod', mod-mul-add, mod_below, mul-le, mul-lt}
pub use Rattle.std.proofs.lemmas.Result.{IfOk-weaker, MatchResult-weaker, on_ok_weaker}
pub use Rattle.std.proofs.lemmas.Slice.Zip.{AllZip-long}
pub use Rattle.std.specs.BTreeMap.{insert_entry, is_at}
pub use Rattle.std.specs.Fn.{FnReturns}
pub use Rattle.std.specs.Global.{Global, Vec}
pub use Rattle.std.specs.List.{All, AllByRecursion, AllZip, Contains, cons_option, count_by, filter, filter_map, flat_map, list_all, list_any, position, position_or_len, range_with_len, sum_by}
pub use Rattle.std.specs.Map.{keys_of, lookup}
pub use Rattle.std.specs.Map.Iter.{deref_pair}
pub use Rattle.std.specs.Ordering.{is_eq, match_ordering, nat_cmp}
pub use Rattle.std.specs.Prelude.{IsSome, is_none, slice_index_or}
pub use Rattle.std.specs.Result.{IsOk, is_ok}
pub use Rattle.std.specs.Vec.Iter.{into_iter_items}
pub use Rattle.csv.specs.Records.{fields_of}
unfoldable pub use Rattle.csv.specs.Records.{field_at}
pub use Rattle.detector_bounds.specs.Detected.{detected_by, grown, last_letter, trusts, watch_of}
pub use Rattle.diagnosis.specs.Diagnosis.{edits}
pub use Rattle.judges.specs.Out.{crash_tick, end_of, is_correct, is_crashed, suspects}
pub use Rattle.judges.specs.Track.{least_from}
pub use Rattle.judges.specs.Verdicts.{verdicts}
pub use Rattle.judges.specs.declared.outcomes.Outcome.{Outcome}
pub use Rattle.judges.specs.declared.verdicts.Verdicts.{Verdicts}
pub use Rattle.process_api.proofs.Minds.{and_true, both_true}
pub use Rattle.process_api.specs.Order.{EntryRecord}
pub use Rattle.process_api.specs.Place.{is_process, numbers_to, others, is_chosen, is_other, is_watched}
pub use Rattle.reporting.proofs.Layers.{one_layer, two_layers}
pub use Rattle.reporting.proofs.Written.{wrote_both, wrote_nothing, wrote_then_part}
pub use Rattle.reporting.specs.Durations.{AreDurations, lengths_of, lists_in}
pub use Rattle.reporting.specs.Running.{AreFindings}
pub use Rattle.reporting.specs.Measures.{all_measures, delay_after, is_measured, pair_durations, starts}
unfoldable pub use Rattle.reporting.specs.Measures.{layer_measures, pair_measures}
pub use Rattle.reporting.specs.Outlet.{Wrote, WrotePart}
pub use Rattle.reporting.specs.declared.findings.RunFindings.{RunFindings}
pub use Rattle.reporting.specs.declared.pair_measures.Detection.TheVariants.{At, Na, NoTick}
pub use Rattle.reporting.specs.declared.pair_measures.PairMeasures.{PairMeasures}
pub use Rattle.runs.specs.Finishing.{IsLonger, MeasuresRun, AreTrusts, most_trusts, trusts_of}
pub use Rattle.runs.specs.Grounds.{HasGrounds, IsBounded}
pub use Rattle.runs.specs.declared.trusts.Trusts.{Trusts}
pub use Rattle.scenario_record.specs.Ranges.{IsInRange}
pub use Rattle.scenario_record.specs.Record.{Record, crash, link}
pub use Rattle.study.specs.Grid.{GridRecord, RunRecord, paths_of, points, runs, ShardRecord}
pub use Rattle.study.specs.Settings.{Chosen, chosen, key_text, path_of}
pub use Rattle.study.specs.Sources.{SourcesRecord, sources_of}
pub use Rattle.study.specs.Words.{Word, after, before}
pub use Rattle.trace_laws.proofs.Joining.{joined_then, none_joined}
pub use Rattle.trace_laws.specs.Taken.{HaveJoined}
pub use Rattle.sweep.specs.ColumnTable.{Column, column_names, columns_of_detections, columns_of_mistakes, columns_of_outcomes, number_of, reaches}
unfoldable pub use Rattle.sweep.specs.ColumnTable.{columns_of_runs, standard_error}
pub use Rattle.sweep.specs.Columns.{AreBounds, AreColumns, AreDecisionSums, AreDoneSums, AreFirstRuns, AreLayerSums, ArePairSums, AreRunCounts, AreTraceSums, AreVerdictCounts, IsAwaited, IsDistribution, SomeAwaited, TellsBound, all_detections, all_durations, all_pairs, detection_bound, does, done_on, finish_of, finished_of, first_after, first_number, has_layer, is_limited, last_decisions, on_layer, over, top_rounds}
pub use Rattle.sweep.specs.Inside.Private.{CountsMore, AddsRowsOfGroup, AreRowsOfSums}
pub use Rattle.sweep.specs.Percentile.{passing, IsPercentile, IsRanked, at_most, greater, greatest}
pub use Rattle.sweep.specs.StudyText.{AddsRowsOfSums, IsBetweenLines, text_of, AreRowsOf, HasOneText, HasRowsOf, IsStudyText, IsTextOf, IsTrialOf, ShardsMakeWhole, header_of, lead_names, lead_of, names_of, numbers_of, point_at, run_at, unit_first, unit_point, unit_runs, units_in, units_of, values}
pub use Rattle.sweep.specs.Fitting.{AreDecisionsWithin, ArePairsWithin, AreTracesWithin, IsLayerWithin, most_mistakes, most_of, most_runs, most_values}
pub use Rattle.sweep.specs.GroupWords.{SayBlocks, SayNoBlocks, block_of, block_said, side_said}
pub use Rattle.sweep.specs.Groups.{group_names, is_in}
pub use Rattle.sweep.specs.Inside.Adding.{bounds_plus, decisions_plus, differ, first_of, first_with, is_above, layer_plus, of_bound, of_outcome, of_verdicts, pairs_plus, plus, plus_few, tick_or_zero, traces_plus, AreOwnSums, IsPair}
pub use Rattle.sweep.specs.Inside.Progress.{AreUnderWay, TellsOn, next_counted, numbers_in, AreAdded, GoesOn, HeaderFails, IsUnderWay, StopsBelow, StopsInPoints, WroteFrontUpTo, WroteUpTo, next_run, AreNumbersAt, AreNumbersFrom, IsAnswerAt, IsFirstRefusal, IsReadyAt, IsRefusalAt, runs_each, unit_count}
pub use Rattle.sweep.specs.Layout.{IsNearest, IsRefusal, IsUnknown, LayoutRecord, TellsOf, place_of, AreRowsFor, AreRowsOfGroup, Text, header_text, layer_fields, line_text, number_text, picked}
pub use Rattle.sweep.specs.OneRun.{Finished, bound_after, bounds, bounds_of, bounds_on, counted_of, counted_pairs, counts_on, decided_value, deciding, deciding_of, decision_tick, detection_time, detections, do_all_decide, do_differ, do_disagree, durations, has_decided, has_mistake, is_to_decide, is_to_detect, is_undecided, is_undetected, last_decision, mistakes, noted_round, pair_ticks, run_outcomes, times_of, top_round}
pub use Rattle.sweep.specs.Results.{AreAnswers, ArePlaces, IsPlaced, with_answers, with_columns, IsResult, RunResult, Trial, done_run, finished, limited, limited_run}
unfoldable pub use Rattle.sweep.specs.Layout.{layer_text}
pub use Rattle.sweep.specs.Inside.Sums.{AddsOneMore, AreLayerFindings, AreOfLimited, AreOfNoLayer}
pub use Rattle.sweep.specs.Sums.{AddsRun, AreFitting, AreGroupNumbers, AreLayerNumbers, AreNumbers, AreSums, AreUnitSums}
pub use Rattle.sweep.specs.Outcome.{AreLimited, HeardLimits, HeardSomeLimits, told_of}
pub use Rattle.sweep.specs.declared.columns.Columns.{Columns}
pub use Rattle.sweep.specs.declared.columns.DecisionSums.{DecisionSums}
pub use Rattle.sweep.specs.declared.columns.DetectionBounds.{DetectionBounds}
pub use Rattle.sweep.specs.declared.columns.Distribution.{Distribution}
pub use Rattle.sweep.specs.declared.columns.FirstRuns.{FirstRuns}
pub use Rattle.sweep.specs.declared.columns.LayerSums.{LayerSums}
pub use Rattle.sweep.specs.declared.columns.PairSums.{PairSums}
pub use Rattle.sweep.specs.declared.columns.RunCounts.{RunCounts}
pub use Rattle.sweep.specs.declared.columns.TraceSums.{TraceSums}
pub use Rattle.sweep.specs.declared.error.SweepError.{SweepError}
pub use Rattle.sweep.specs.declared.error.SweepError.TheVariants.{Memory, Write}
pub use Rattle.sweep.specs.declared.group.Group.{Group}
pub use Rattle.sweep.specs.declared.layout.Rows.{Rows}
pub use Rattle.sweep.specs.declared.point_sums.PointSums.{PointSums}
pub use Rattle.sweep.specs.declared.run_numbers.GroupNumbers.{GroupNumbers}
pub use Rattle.sweep.specs.declared.run_numbers.RunNumbers.{RunNumbers}
pub use Rattle.sweep.specs.declared.unit_sums.UnitSums.{UnitSums}
