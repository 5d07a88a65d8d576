-- Words and lemmas of the libraries and of this crate that several proofs use.
pub use Rattle.std.proofs.Common.{Bool, Contains, List, None, Option, Some, [], add-one, ap, append-nil, append_assoc, arith, cond, eqb, false, filter, flat_map, get_or, inl, inr, length, length-append, ltb, map, max, not, refl, rules, subst, suc, sum_by, sym, take, true, zero, ℕ, ◌*◌, ◌++◌, ◌+◌, ◌-◌, ◌<◌, ◌||◌, ◌∙◌, ◌∷◌, ◌≡◌, ◌≢◌, ◌≤◌}
pub use Rattle.std.proofs.lemmas.Bool.{cases_lt, eq-eqb, eqb-false, le-leb, le-ltb, lt-leb, lt-ltb, ne_eqb, true≢false}
pub use Rattle.std.proofs.lemmas.Grind.{flat_map-append}
pub use Rattle.std.proofs.lemmas.List.{get_or_default, map-append, take_all, take_more}
pub use Rattle.std.proofs.lemmas.List.Elements.{Contains-append_left, Contains-push, Contains-push_cases, filter-append}
pub use Rattle.std.proofs.lemmas.List.Folds.{flat_map-map, list_all-append}
pub use Rattle.std.proofs.lemmas.List.Sums.{count_by-le-length, fold-append, length-filter, sum_by_push}
pub use Rattle.std.proofs.lemmas.Result.{IfOk-weaker, MatchResult-weaker}
pub use Rattle.judges.proofs.Outcoming.{length-outcomes, outcomes-at}
pub use Rattle.judges.specs.Turns.{noted_turns, turns}
pub use Rattle.judges.specs.Pairs.{AreUntil}
pub use Rattle.judges.specs.declared.outcomes.Outcome.{Outcome}
pub use Rattle.process_api.specs.Order.{EntryRecord}
pub use Rattle.process_api.specs.Place.{numbers_to, others}
pub use Rattle.drawing.specs.Frame.{Tells, are_frame, without_place, group_height, lanes_bottom, own_top, subjects}
unfoldable pub use Rattle.drawing.specs.Frame.{placeless, groups_bottom, left_out, row_top}
pub use Rattle.drawing.specs.Inside.Drawn.{AreRows, AreRowsOf, absent, bars_in, row_at, turn_bars}
unfoldable pub use Rattle.drawing.specs.Inside.Drawn.{bands_in, group_bands_of, group_of, has_row_in, own_of, pair_in, pair_of, line_bands_in, link_bands, marks_in, turns_in}
pub use Rattle.drawing.specs.Inside.Sweeping.{Found, IsPassed, IsSwept, after, after_all, found, found_of, passed, passed_by, stretches}
pub use Rattle.drawing.specs.LettersPicture.{arrows, bar_turns}
unfoldable pub use Rattle.drawing.specs.LettersPicture.{letters_shapes, line_bands, mark_shapes}
pub use Rattle.drawing.specs.Suspicions.{bands, bar_shape, has_bar, upper_bars}
unfoldable pub use Rattle.drawing.specs.Suspicions.{group_bands, group_shapes, has_row, pair_at}
pub use Rattle.drawing.specs.declared.bars.Bar.{Bar}
pub use Rattle.drawing.specs.declared.sweep.Sweep.{Sweep}
