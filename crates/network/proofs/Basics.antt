-- Words and lemmas of the libraries and of this crate that several proofs use.
pub use Rattle.std.proofs.Common.{Bool, Bor, Err, Global, IfOk, List, None, Ok, OnOk, Option, Result, Some, String, [], add-one, add-zero, add_assoc, ap, append-nil, append_assoc, arith, cond, drop, false, filter, get_or, if◌then◌else◌, is_some, length, length-append, map, min, nat_lt, not, option_and_then, refl, rules, slice_get, slice_index, string_bytes, subst, suc, sym, take, true, zero, zero-add, ℕ, ◌%◌, ◌&&◌, ◌*◌, ◌++◌, ◌+◌, ◌-◌, ◌/◌, ◌<◌, ◌^◌, ◌||◌, ◌∙◌, ◌∷◌, ◌≡◌, ◌≢◌, ◌≤◌}
pub use Rattle.std.proofs.Math.Nat.{div-lt_iff_lt-mul, mod-add-mod, mod-eq_of_lt, mul-le-mul_right}
pub use Rattle.std.proofs.lemmas.Grind.{common_steps, flat_map-append, pow_more}
pub use Rattle.std.proofs.lemmas.List.{flat_map_more, get_or-map, get_or_default, length-map, map-append, take-map, take_all, take_more}
pub use Rattle.std.proofs.lemmas.List.Elements.{All-cons, All-get_or, All-head, All-map, All-nil, All-push, All-rest, All-same, All-tail, All-weaker, filter_more}
pub use Rattle.std.proofs.lemmas.List.Folds.{length-flat_map-take, list_any_at}
pub use Rattle.std.proofs.lemmas.List.FromFn.{get_or-enumerate_from, get_or-range_with_len, length-enumerate_from, length-range_with_len, map-range_with_len_more}
pub use Rattle.std.proofs.lemmas.Option.{slice_get-get_or, slice_get_within}
pub use Rattle.std.specs.List.{All, AllZip, Contains, enumerate_from, filter_map, find, flat_map, list_any, range_with_len, take_while}
pub use Rattle.std.specs.Option.{option_map_or, option_or, option_to_list}
pub use Rattle.scenario.proofs.Among.{none_there, one_there, tables_of}
pub use Rattle.scenario.specs.Faults.{count}
pub use Rattle.scenario.specs.Keys.{numbered}
pub use Rattle.scenario.specs.Table.{all_items, is_number, keys_of, same_text}
unfoldable pub use Rattle.scenario.specs.Table.{tables_at}
pub use Rattle.scenario.specs.declared.drawn.LinkOutage.{LinkOutage}
pub use Rattle.scenario_record.specs.declared.outage.Outage.{Outage}
pub use Rattle.toml.proofs.Views.{get_item_within}
pub use Rattle.toml.specs.Data.{Data, Items, Members, array, as_array, as_table, get_item, get_member, integer, item, no_items, table}
pub use Rattle.toml.specs.View.{items_view, members_view, table_view, view}
pub use Rattle.toml.specs.declared.value.Value.{Value}
pub use Rattle.network.specs.Above.{AreAllWithin, AreWithin, HasKeyAbove, Named, member_above, named}
pub use Rattle.network.specs.Drawn.{alone, most_outages, of_burst, of_each, outage_on, pause_of, left_of, replayed_in, is_one, ticks_of}
unfoldable pub use Rattle.network.specs.Drawn.{drawn_of, of_pause, on_each, replayed, digits, first_ticks_of, first_words_taken, geometric, odds, words_taken}
pub use Rattle.network.specs.Fields.{Field, any_item, both_field, field_of, fields_in, fields_of, file_keys, first_of, first_outside, group_field, has_more, is_empty_array, is_numbers, is_pair, items_in, key_of, keys_in, lacks_member, needed, number_outside, outside, spell_field, takes}
unfoldable pub use Rattle.network.specs.Fields.{burst_fields, cut_fields, fault_at, fault_of_value, has_fault, has_unlisted, is_listed, is_spell_table, pause_fields, replay_fields}
pub use Rattle.network.specs.Laid.{holds, joins, links_from, links_of, laid_from, laid_on}
unfoldable pub use Rattle.network.specs.Inside.Coming.{to_come}
unfoldable pub use Rattle.network.specs.Laid.{laid_links}
pub use Rattle.network.specs.Reading.{Said, SaysBurst, SaysCut, SaysNetwork, SaysPause, SaysReplay, SaysRhythm, each, lasts_in, mean, outage_of, outages_in, processes_in, said_at, said_in, said_of, ticks, values}
unfoldable pub use Rattle.network.specs.Reading.{number_of}
pub use Rattle.network.specs.Refusals.{AreTablesOf, HasFaultAt, HasOther, IsNetworkFile, IsTableOf, Refuses, lies_within}
unfoldable pub use Rattle.network.specs.Refusals.{replay_fault}
pub use Rattle.network.specs.Words.{Words, most_tables, stream_number, stream_of}
unfoldable pub use Rattle.network.specs.Words.{after, words_of}
pub use Rattle.network.specs.declared.field.TableKind.{TableKind}
pub use Rattle.network.specs.declared.group.Ends.{Ends}
pub use Rattle.network.specs.declared.network.LinkTable.{LinkTable}
pub use Rattle.network.specs.declared.network.Replay.{Replay}
pub use Rattle.network.specs.declared.rhythm.Rhythm.{Rhythm}
