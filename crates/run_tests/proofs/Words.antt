-- Words and lemmas of the libraries and of this crate that several proofs use.
pub use Rattle.std.proofs.Common.{List, Some, [], ap, arith, get_or, length, map, refl, rules, subst, sym, true, ℕ, ◌*◌, ◌++◌, ◌+◌, ◌-◌, ◌/◌, ◌==◌, ◌∙◌, ◌∷◌, ◌≡◌}
pub use Rattle.std.proofs.lemmas.List.{flat_map_more}
pub use Rattle.std.specs.List.{AllZip, count_by, flat_map, range_with_len}
pub use Rattle.process_api.specs.Order.{is_before, is_rising}
pub use Rattle.reporting.specs.Outlet.{Held}
pub use Rattle.study.specs.Grid.{GridRecord, RunRecord, run_of, runs, turn, IsShard, ShardRecord, block}
pub use Rattle.study.specs.Sources.{SourcesRecord, sources_of}
pub use Rattle.sweep.proofs.Zipped.{range_more, zip_push}
pub use Rattle.sweep.specs.Outcome.{WroteStudy}
pub use Rattle.sweep.specs.Layout.{Text}
pub use Rattle.sweep.specs.StudyText.{HasOneText, IsStudyText}
