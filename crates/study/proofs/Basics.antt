-- Words and lemmas of the libraries and of this crate that several proofs use.
pub use Rattle.std.proofs.Common.{BTreeMap, Bool, Bor, Equal, Err, Global, IfErr, IfNone, IfOk, IfSome, IsErrAnd, Less, List, MatchOption, MatchResult, None, Ok, Option, Ordering, Result, Some, String, [], ap, append_assoc, arith, codes, cond, decimal, drop, false, filter, get_or, if◌then◌else◌, inl, inr, length, length-append, length-drop, lit<, map, min, nat_lt, neg_ℤ, not, option_map, pos, refl, rules, set, slice_index, string_bytes, subst, suc, sym, take, true, vec_len, w64, zero, ℕ, ℤ, ◌%◌, ◌&&◌, ◌*◌, ◌++◌, ◌+◌, ◌-ℤ◌, ◌-◌, ◌/◌, ◌<◌, ◌==◌, ◌^◌, ◌||◌, ◌∙◌, ◌∷◌, ◌≡◌, ◌≢◌, ◌≤ℤ◌, ◌≤◌, ◌⊎◌}
pub use Rattle.std.proofs.Math.Dec.{ltb}
pub use Rattle.std.proofs.Math.Nat.{add-mul, div-lt_iff_lt-mul, div-mul-le_self, le-mul_of_pos_right, lt-div-mul-add, mod-eq_of_lt, mod-lt, mul-add-mod_self_right, mul-div_cancel_left, mul-div_left, mul-le-mul_left, mul-le-mul_right, mul-suc, mul-zero, mul_assoc, one-le-mul, suc-mul, zero-add, zero-div, zero-mul}
pub use Rattle.std.proofs.lemmas.Bool.{and_from, and_parts, cases_Bool, cases_lt, eq-eqb, eqb-false, eqb-true, false≢true, le-ltb, lt-ltb, ltb-false, ltb-true, ne_eqb}
pub use Rattle.std.proofs.lemmas.Int.{ints, to_z-of_z}
pub use Rattle.std.proofs.lemmas.List.{append-nil, append_cancel_right, at_drop_all, at_drop_more, drop_more, get_or-map, get_or_at, get_or_default, length-map, length-take-le, map-append, map_more, map_push, take_all}
pub use Rattle.std.proofs.lemmas.List.Elements.{All-append, All-cons, All-map, All-nil}
pub use Rattle.std.proofs.lemmas.List.Folds.{list_all_at, list_any-append, list_any_none}
pub use Rattle.std.proofs.lemmas.List.FromFn.{get_or-map-range_with_len, length-map-range_with_len, length-range_with_len, map-range_with_len_more, sum_by-map-range_with_len_more}
pub use Rattle.std.proofs.lemmas.Nat.{div-add-mod', le-div}
pub use Rattle.std.proofs.lemmas.Result.{on_ok_weaker}
pub use Rattle.std.proofs.lemmas.Str.Pattern.{IsSplitOnceResult, split_after, split_once_first, split_parts, strip_prefix_char, strip_suffix_char}
pub use Rattle.std.specs.Char.{is_ascii_digit}
pub use Rattle.std.specs.Global.{Vec}
pub use Rattle.std.specs.Int.RustNames.{FitsSigned, unsigned_abs}
pub use Rattle.std.specs.List.{AllZip, enumerate_from, flat_map, list_all, list_any, range_with_len, sum_by, take_while}
pub use Rattle.std.specs.Option.{option_and_then, option_map_or, option_or}
pub use Rattle.std.specs.Ordering.{is_eq, is_lt, match_ordering, nat_cmp, ordering_then}
pub use Rattle.network.specs.Drawn.{most_outages, of_each, on_each}
unfoldable pub use Rattle.network.specs.Drawn.{drawn_of, of_burst, of_cut, of_pause, of_replay}
pub use Rattle.network.specs.Laid.{laid_links}
pub use Rattle.scenario.specs.Drawn.{outage_table, put}
unfoldable pub use Rattle.scenario.specs.Drawn.{with_outages}
pub use Rattle.scenario.specs.Text.{is_second, processes_of, record_of, same_pair}
pub use Rattle.scenario.specs.declared.drawn.LinkOutage.{LinkOutage}
pub use Rattle.toml.proofs.Views.{view-Array, view-Table}
pub use Rattle.toml.specs.Data.{Data, Items, Members, array, as_array, as_table, get_item, get_member, item, no_items, no_members, table}
pub use Rattle.toml.specs.View.{items_view, members_view, table_view, view}
pub use Rattle.toml.specs.declared.value.Value.{Value}
pub use Rattle.study.specs.AxisWords.{IsFault, entries_said}
pub use Rattle.study.specs.Inside.AxisWords.{range_by, range_of}
unfoldable pub use Rattle.study.specs.AxisWords.{first_fault}
pub use Rattle.study.specs.Grid.{combinations, AreDealtEvenly, GridRecord, HaveOwnSeeds, Refusal, RunRecord, all_keys, deal_refusal, dealt_to, first_again, keys_of, meets, paths_of, runs, runs_with, told, uneven}
pub use Rattle.study.specs.KeyWords.{SayNoKeys, SaysKey, SaysNoKey}
pub use Rattle.study.specs.Laid.{CantBeLaid, IsLaidBy, above, drawn_in, file_over, has_sources, horizon_of, is_laid, laid_in, lay_links, listed, older, refused, seed_of, too_many, values_in}
pub use Rattle.study.specs.Inside.Private.{HasValues, StaysAsItIs}
unfoldable pub use Rattle.study.specs.Laid.{with_rows, with_tables}
pub use Rattle.study.specs.Placed.{assign_all, put_in_each, set_all}
pub use Rattle.study.specs.Settings.{Chosen, FilePath, Given, Path, choices, chosen, element, every, file_key_text, file_path_of, given_by, inner, key_text, network, number, path_of, scenario, set_to, settings_in, top}
pub use Rattle.study.specs.Sources.{SourcesRecord, sources_of}
pub use Rattle.study.specs.Words.{Word, between, bounds, fits, integer, is_integer, is_natural, natural}
pub use Rattle.study.specs.declared.error.PlaceError.{PlaceError}
pub use Rattle.study.specs.declared.key.Key.{Key}
pub use Rattle.study.specs.declared.setting.Setting.{Setting}
