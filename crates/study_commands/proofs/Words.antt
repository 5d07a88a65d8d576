-- Words and lemmas of the libraries and of this crate that several proofs use.
pub use Rattle.std.proofs.Common.{All, Bool, Bor, Err, IfErr, IfOk, List, None, Ok, OnOk, Option, Result, Some, String, [], add-one, ap, append_assoc, arith, codes, cond, decimal, drop, drop-cons, eqb, false, filter, fold, get_or, if◌then◌else◌, inl, inr, is_some, length, length-append, map, max, not, option_to_list, refl, rules, slice_index_or, string_bytes, subst, suc, sym, take, true, zero, zip, ℕ, ◌%◌, ◌&&◌, ◌++◌, ◌+◌, ◌-◌, ◌<◌, ◌==◌, ◌||◌, ◌∙◌, ◌∷◌, ◌≡◌, ◌≢◌, ◌≤◌, ◌⊎◌}
pub use Rattle.std.proofs.lemmas.Bool.{eq-eqb, ne_eqb}
pub use Rattle.std.proofs.lemmas.List.{drop_all, get_or-append-add, get_or-map, get_or_append_left, get_or_default, length-map, map-append, take_all, take_more}
pub use Rattle.std.proofs.lemmas.List.Elements.{All-contains, All-drop, All-filter, All-take, filter_map-append}
pub use Rattle.std.proofs.lemmas.List.FromFn.{get_or-range_with_len, length-range_with_len}
pub use Rattle.std.proofs.lemmas.Result.{IfErr-weaker, IfOk-weaker, on_ok_weaker}
pub use Rattle.std.proofs.lemmas.Slice.Zip.{get_or-zip, length-zip}
pub use Rattle.std.specs.List.{AllZip, cons_option, count_by, filter_map, flat_map, list_any, position, position_from, range_with_len}
pub use Rattle.std.specs.Option.{option_and_then, option_map, option_map_or}
pub use Rattle.std.specs.declared.alloc.AllocError.{AllocError}
pub use Rattle.std.specs.declared.alloc.Global.{Global}
pub use Rattle.diagnosis.specs.Diagnosis.{AcceptsAs, AcceptsTableAs, Describes, RefusesTableFor, entries_in, longest_window}
pub use Rattle.promised.specs.Promised.{promised}
pub use Rattle.reporting.specs.Outlet.{Wrote, WroteNothing, WrotePart}
pub use Rattle.scenario.proofs.Elements.{contains_image}
pub use Rattle.scenario.specs.Refusals.{Accepts, IsDocumentOf}
pub use Rattle.scenario.specs.Text.{pair_of, record_of, same_pair}
pub use Rattle.scenario_record.specs.Record.{Record}
pub use Rattle.shell.proofs.Going.{for_help, for_order, goes_as, put_goes}
pub use Rattle.shell.specs.Ending.{LeftAt, MayHaveGone, Puts, Went}
pub use Rattle.study.specs.AxisWords.{SaysAxis}
pub use Rattle.study.specs.Grid.{GridRecord, paths_of, points, runs}
pub use Rattle.study.specs.SetWords.{SaysAssignment}
pub use Rattle.study.specs.Settings.{Chosen, Given, Path, choices, chosen, path_of, set_to, settings_in}
pub use Rattle.study.specs.Sources.{SourcesRecord, sources_of}
pub use Rattle.study.specs.declared.assignment.Assignment.{Assignment}
pub use Rattle.study.specs.declared.axis.Axis.{Axis}
pub use Rattle.study_line.specs.Order.{AsksHelp, AsksVersion, Explains, States}
pub use Rattle.study_line.specs.declared.order.SourceTexts.{SourceTexts}
pub use Rattle.sweep.specs.GroupWords.{SaysGroup}
pub use Rattle.sweep.specs.StudyText.{IsTextOf, numbers_of, point_at, units_of}
pub use Rattle.toml.specs.Data.{Data, Items, Members, array, as_array, as_table, get_member}
pub use Rattle.toml.specs.View.{items_view, table_view, view}
pub use Rattle.toml.specs.declared.value.Value.{Value}
pub use Rattle.trace_laws.specs.Taken.{HaveJoined}
pub use Rattle.study_commands.specs.Answer.{Answers, GoesFor, Leaves, Writes}
pub use Rattle.study_commands.specs.Inside.Private.{IsNoSweep, accepted_line, IsNoFault}
pub use Rattle.study_commands.specs.Check.{bounds_text, accepted_text, study_begin}
pub use Rattle.study_commands.specs.Draw.{IsOfPicture, process_said}
pub use Rattle.study_commands.specs.Fault.{IsBefore, IsOfWordsFor, IsRefusal, end_of, line_of, status_of}
pub use Rattle.study_commands.specs.File.{AreBytes, AreFiles, AreSet, AreSources, IsOwnScenario, IsScenario, IsTable, MayBeTable, NameInputTwice, is_alone, network_path, no_axes, set_words}
pub use Rattle.study_commands.specs.Inside.Warned.{AreFirst, Gains, IsFirstOf, IsRunOf, OfRuns, dealt_of, ends_from, is_no_end, pair_in, paths_said, tables_in, tick_said, warning_of}
pub use Rattle.study_commands.specs.Refusal.{AreNoSources, Decided, FileRefusal, IsBeforeReading, IsNoNetwork, IsNoScenario, IsOfBytes, IsOfFile, IsOfFiles, IsOfNetwork, IsOfOwnFile, IsOfSources, IsOfTable, IsRefusedFile, IsRight, IsRightOfTable, IsToldWith, IsUnread, Says, absent, broken, line_with, refusal_text, too_long, unreadable}
pub use Rattle.study_commands.specs.Serve.{AreAnswered}
pub use Rattle.study_commands.specs.WarningText.{choice_text, choices_text, warning_line}
pub use Rattle.study_commands.specs.Warnings.{IsFirst, are_tables, dealt_by, dealt_to, found, gaps, goes_by_link, is_of_link, is_of_outage, keys_of, late, late_with, lates, linked_pairs, next_phases, period_of, phases, sends_by_link, sets_outage, tick_in, uneven, uneven_in, unevens, unlinked, unlinked_where, unused, uses_link, warning_of_dealt, warnings}
pub use Rattle.study_commands.specs.Why.{HasNone, IsOfStudy, IsOfText, IsTooLong, StopsCheck, StopsFor, StopsShow, StopsSweep}
pub use Rattle.study_commands.specs.WordRefusals.{IsOutside, SaysNoLayout, SaysNoSources, is_group_memory, is_like}
pub use Rattle.study_commands.specs.declared.fault.Fault.{Fault}
pub use Rattle.study_commands.specs.declared.fault.Fault.TheVariants.{Limit, Memory, NotDrawn, Refused, Words, WordsMemory, Write}
pub use Rattle.study_commands.specs.declared.first_run.FirstRun.{FirstRun}
