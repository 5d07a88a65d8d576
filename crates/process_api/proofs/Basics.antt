-- Words and lemmas of the libraries and of this crate that several proofs use.
pub use Rattle.std.proofs.Common.{BTreeMap, Bool, Equal, Greater, IfNone, IfSome, IsSome, Less, List, None, Option, Ordering, Some, [], add-one, ap, append-nil, append_assoc, arith, bit_and, bit_or, bit_xor, cond, false, get_or, inl, inr, is_eq, is_gt, is_lt, is_some, length, length-append, map, max, min, mod-lt, nat_cmp, nat_eq, nat_le, nat_lt, not, option_to_list, refl, replicate, rules, set, slice_get, subst, suc, sym, take, true, true≢false, unwrap_or, w64, zero, ℕ, ⊎_elim, ◌%◌, ◌&&◌, ◌*◌, ◌++◌, ◌+◌, ◌-◌, ◌/◌, ◌<◌, ◌==◌, ◌^◌, ◌||◌, ◌∙◌, ◌∷◌, ◌≡◌, ◌≢◌, ◌≤◌, ◌⊎◌}
pub use Rattle.std.proofs.Math.Bool.{and-false, and-not_self, or-false}
pub use Rattle.std.proofs.Math.Nat.{eq-zero-or-pos, mod-eq_of_lt, mod-one}
pub use Rattle.std.proofs.lemmas.Bool.{and_parts, and_right, both_ways, cases_eq, cases_lt, cond-true, cond_both, eq-eqb, eqb-true, false_from_ne_true, leb-true, lt-ltb, ltb-true, ne_eqb, not-true, or_cases}
pub use Rattle.std.proofs.lemmas.Bool.Decides.{nat_tests}
pub use Rattle.std.proofs.lemmas.Cmp.{on_total, ranked, then_total, tied_itself}
pub use Rattle.std.proofs.lemmas.List.{get_or-replicate, get_or-set_other, get_or-set_same, get_or_append_left, length-map, map-append, take_more}
pub use Rattle.std.proofs.lemmas.List.Elements.{All-from_recursion, filter-append}
pub use Rattle.std.proofs.lemmas.Nat.{le_or_l, le_or_r, mod-pow-add, mod_below, one_shl, ones-le, ones_cat, pow_pos}
pub use Rattle.std.proofs.lemmas.Nat.Bits.{bit_at-lt, bit_at-trailing_zeros, bit_at-zero, bit_at_and, bit_at_clear_other, bit_at_clear_same, bit_at_ones, bit_at_ones_above, bit_at_or, bit_at_set_other, bit_at_set_same, bit_at_xor, shr_and_one}
pub use Rattle.std.proofs.lemmas.Option.{get_or_from_slice_get, slice_get_within}
pub use Rattle.std.specs.Cmp.{IsTotalOrder, nat_cmp_total, unsigned_tied}
pub use Rattle.std.specs.FinMap.{IsAntisymmetric, nat_cmp-IsAntisymmetric}
pub use Rattle.std.specs.Int.{bit_at, bit_not, trailing_zeros}
pub use Rattle.std.specs.List.{All, AllByRecursion, filter}
pub use Rattle.std.specs.Option.{option_eq}
pub use Rattle.std.specs.Ordering.{ordering_reverse, ordering_then}
pub use Rattle.std.specs.Prelude.{IsTrue, count_ones}
pub use Rattle.process_api.specs.Answer.{IsAllowed, notes_of_layer, of_layer, Answer, after, still, to_all, to_others}
pub use Rattle.process_api.specs.BaseDetector.{IsDetectorStep, IsOfDetector, TrustsAll}
pub use Rattle.process_api.specs.Place.{most_first_actions, most_processes, is_process, numbers_to, others, Place, same_place, is_other}
pub use Rattle.process_api.specs.ConsensusS.{Exchange, all_to}
pub use Rattle.process_api.specs.Coordinator.{Coordinator, keep, coordinator, count_to, greatest_round, is_own, majority}
pub use Rattle.process_api.specs.Detector.{ByFreshness, ByTimeout, DetectorState, has_pauses, suspected_by}
unfoldable pub use Rattle.process_api.specs.Detector.{step_detector}
pub use Rattle.process_api.specs.Order.{EntryRecord, is_before, is_less, key_cmp}
unfoldable pub use Rattle.process_api.specs.Sets.{in_order, of_word}
pub use Rattle.process_api.specs.Inside.Bits.{is_set}
unfoldable pub use Rattle.process_api.specs.Inside.Bits.{members}
pub use Rattle.process_api.specs.Inside.Noting.{note_of}
pub use Rattle.process_api.specs.Letters.{by_number, by_row, in_row, of_sender, since, since_round}
pub use Rattle.process_api.specs.Mind.{AlgorithmState, Coordinating, Exchanging, Idle, Lower, Mind, is_mind_at, is_paced, most_actions, stands_at, suspects_of, trusts_itself}
unfoldable pub use Rattle.process_api.specs.React.{react, react_algorithm, react_lower}
pub use Rattle.process_api.specs.Reduction.{ReductionState, gathered, step_reduction}
pub use Rattle.process_api.specs.Rows.{AreSenders, cell_of, keep_one}
pub use Rattle.process_api.specs.Sets.{HasAbove, Processes, changes, gone, insert_all, up_to}
pub use Rattle.process_api.specs.declared.action.Action.{Action}
pub use Rattle.process_api.specs.declared.action.Action.TheVariants.{Send}
pub use Rattle.process_api.specs.declared.key.Key.{Key}
pub use Rattle.process_api.specs.declared.message.Payload.{Payload}
pub use Rattle.process_api.specs.declared.message.StepInput.{StepInput}
pub use Rattle.process_api.specs.declared.row.Row.{Row}
pub use Rattle.process_api.specs.declared.words.TheConstants.{WORDS}
