-- Words and lemmas of the libraries and of this crate that several proofs use.
pub use Rattle.std.proofs.Common.{Bool, List, None, Option, [], ap, append-nil, append_assoc, arith, cond, false, inl, inr, length, map, nat_cmp, nat_eq, nat_le, not, refl, slice_index_or, slice_set, subst, sym, true, ℕ, ◌&&◌, ◌++◌, ◌+◌, ◌<◌, ◌||◌, ◌∙◌, ◌∷◌, ◌≡◌, ◌≢◌, ◌≤◌, ◌⊎◌}
pub use Rattle.std.proofs.lemmas.Bool.{and_parts, cases_eq, cond-false, cond-true, eq-eqb, eqb-true, false_from_ne_true, ne_eqb}
pub use Rattle.std.proofs.lemmas.List.{get_or-set_other, get_or-set_same, get_or_default}
pub use Rattle.std.specs.Option.{option_map_or}
pub use Rattle.process_api.proofs.Contains.{contains-remove_is, insert_all-next, same_members}
pub use Rattle.process_api.specs.Freshness.{FreshnessState, heard, noted, suspected, watches}
pub use Rattle.process_api.specs.Place.{change, is_process, numbers_to, Place}
pub use Rattle.process_api.specs.Sets.{Processes, changes, insert_all}
pub use Rattle.process_api.specs.declared.numbers.FreshnessNumbers.{FreshnessNumbers}
pub use Rattle.scenario_record.specs.Opening.{place_of}
pub use Rattle.freshness_detector.specs.Inside.Tables.{state_by}
pub use Rattle.freshness_detector.specs.Inside.View.{checked_by, heard_by, is_stale_at, next_check_of, noted_by, state_of, suspected_at}
