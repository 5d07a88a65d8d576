-- Words and lemmas of the libraries and of this crate that several proofs use.
pub use Rattle.std.proofs.Common.{BTreeMap, Bool, Bor, Equal, Err, Global, Greater, IfErr, IfOk, IfSome, Less, List, None, Ok, OnOk, Option, Ordering, Result, Some, String, [], add-one, ap, append_assoc, arith, codes, cond, drop, false, filter, find, get_or, is_none, is_some, length, length-append, map, nat_le, not, of_z, option_and_then, pos, refl, replicate, rules, set, slice_set, string_bytes, subst, suc, sym, take, to_z, true, w64, zero, ℕ, ℤ, ◌%◌, ◌&&◌, ◌*◌, ◌++◌, ◌+◌, ◌-◌, ◌/◌, ◌<◌, ◌==◌, ◌^◌, ◌||◌, ◌∙◌, ◌∷◌, ◌≡◌, ◌≢◌, ◌≤◌}
pub use Rattle.std.proofs.Math.Bool.{or-false, or-true}
pub use Rattle.std.proofs.lemmas.Bool.{eq-eqb, eqb-true, leb-false, leb-true, ltb-false, ne_eqb, not-false, not-true}
pub use Rattle.std.proofs.lemmas.List.{append-nil, ext_get_or, get_or-map, get_or-replicate, get_or-set_other, get_or-set_same, get_or_default, get_or_past, length-map, length-replicate, length-set, map-append, map-set, take-append-drop, take_all, take_more}
pub use Rattle.std.proofs.lemmas.List.Elements.{All-head, All-rest, All-same, filter-append, filter_map-append}
pub use Rattle.std.proofs.lemmas.List.Folds.{find-append, list_any-append, list_any_at}
pub use Rattle.std.proofs.lemmas.List.FromFn.{get_or-map-range_with_len, get_or-range_with_len, length-map-range_with_len, length-range_with_len}
pub use Rattle.std.proofs.lemmas.Nat.{div-add-mod', div-mul-add, mul-add-lt}
pub use Rattle.std.proofs.lemmas.Option.{slice_get-get_or, slice_get_past}
pub use Rattle.std.specs.Cmp.Lexicographic.{slice_cmp}
pub use Rattle.std.specs.List.{All, AllByRecursion, Contains, cons_option, filter_map, flat_map, list_any, range_with_len, slice_get}
pub use Rattle.std.specs.Option.{ForSome, option_map, option_map_or, option_or, unwrap_or}
pub use Rattle.std.specs.Ordering.{is_eq, match_ordering, nat_cmp}
pub use Rattle.scenario_record.specs.Ranges.{IsInRange, IsLink, IsOutage}
pub use Rattle.scenario_record.specs.Record.{Record, crash, link, no_link, proposal}
pub use Rattle.scenario_record.specs.declared.link.Link.{Link}
pub use Rattle.scenario_record.specs.declared.outage.Outage.{Outage}
pub use Rattle.toml.specs.Data.{Data, Items, Members, array, as_array, as_integer, as_str, as_table, get_member, integer, item, member, no_members, table}
pub use Rattle.toml.specs.View.{array_view, items_of, items_view, members_view, table_view, view}
pub use Rattle.toml.specs.declared.value.Value.{Value}
pub use Rattle.scenario.specs.Drawn.{all_outages, outage_table, put}
pub use Rattle.scenario.specs.Inside.Private.{lacks_outages, array_error, section_error}
unfoldable pub use Rattle.scenario.specs.Drawn.{with_outages}
pub use Rattle.scenario.specs.Faults.{IsFault, IsValueFault, count, has_integer, integer_in, is_of_pair, item_numbered}
unfoldable pub use Rattle.scenario.specs.Inside.Private.{IsFoundBy}
pub use Rattle.scenario.specs.Inside.Outages.{AreOutagesOf}
pub use Rattle.scenario.specs.Keys.{outages_field, array_key, fields_of_array, numbered, table_of}
unfoldable pub use Rattle.scenario.specs.Keys.{outage_fields, some_table, top_fields}
pub use Rattle.scenario.specs.Inside.Parts.{AreProcesses, tables_in}
pub use Rattle.scenario.specs.Parts.{IsProcess, fault_of, field_of, fields_of, link_in, outages_in}
pub use Rattle.scenario.specs.Ranges.{Subject, subject_of}
pub use Rattle.scenario.specs.Refusals.{Accepts, IsAnswer, IsDocumentOf, Judges, Refuses, first_of, is_memory, key_refusals, number_refusals, outage_refusals, part_refusals, when, when_below}
unfoldable pub use Rattle.scenario.specs.Refusals.{refusal_of}
pub use Rattle.scenario.specs.Rules.{are_bad_crashes, are_bad_outages, are_bad_pairs, are_bad_proposals, has_repeat, is_bad_proposal, is_bad_share, is_below, most_in, outages_refused, pairs, pairs_from, same_process}
unfoldable pub use Rattle.scenario.specs.Rules.{are_other_than, is_bad_crash, is_bad_detector, is_bad_freshness, is_bad_link, is_bad_outage, is_bad_pair, is_bad_timeout, is_negative, is_other_kind, is_outside, pair_below}
pub use Rattle.scenario.specs.Table.{Field, all_items, array_in, is_number, is_of, is_table, keys_of, same_text, table_or_empty, the_integers, the_tables}
unfoldable pub use Rattle.scenario.specs.Table.{has_key, has_lacking, has_mistyped, has_unlisted, integers_at, is_lacking, is_listed, is_mistyped, number_or, table_at, tables_at, text_or}
pub use Rattle.scenario.specs.Text.{algorithm_in, crash_process, crash_tick, delays_of, detector_of, each_pairs_outages, freshness_of, natural, natural_of, outage_of, pair_of, processes_of, record_of, same_pair, share_of, timeout_of}
unfoldable pub use Rattle.scenario.specs.Text.{crash_among, crashes_among, is_fresh, is_second, link_among, links_among, number_at, outages_among, pair_outages}
pub use Rattle.scenario.specs.declared.drawn.LinkOutage.{LinkOutage}
pub use Rattle.scenario.specs.declared.error.ScenarioError.{ScenarioError}
