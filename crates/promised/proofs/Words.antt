-- Words and lemmas of the libraries and of this crate that several proofs use.
pub use Rattle.std.proofs.Common.{Bool, List, None, Option, Some, [], add-one, ap, append-nil, append_assoc, arith, cond, count_by, eq-eqb, false, filter, filter_map, flat_map, fold, if◌then◌else◌, inl, inr, le-leb, leb-true, length, ltb-true, map, max, nat_le, nat_lt, not, option_map, refl, rules, subst, suc, sym, true, true≢false, unwrap_or, zero, ℕ, ◌&&◌, ◌++◌, ◌+◌, ◌-◌, ◌<◌, ◌==◌, ◌||◌, ◌∙◌, ◌∷◌, ◌≡◌, ◌≤◌, ◌⊎◌}
pub use Rattle.std.specs.List.{cons_option, list_any, range_with_len, reduce}
pub use Rattle.detector_bounds.specs.Detected.{detected_by, trusts, IsReliable, IsTimely, Watches, watch_of}
pub use Rattle.process_api.proofs.Minds.{and_true, both_true}
pub use Rattle.process_api.specs.Place.{is_chosen, is_other, is_watched}
pub use Rattle.process_api.specs.declared.numbers.DetectorNumbers.{DetectorNumbers}
pub use Rattle.process_api.specs.declared.numbers.DetectorNumbers.TheVariants.{Freshness, Timeout}
pub use Rattle.scenario_record.specs.Record.{Record, crash, link, outages_on}
pub use Rattle.scenario_record.specs.declared.link.Link.{Link}
pub use Rattle.trace_laws.specs.History.{IsIn}
pub use Rattle.promised.specs.Kept.{AlwaysSuspects, HasNotGrown, IsLossless, IsToDetect, KeepsPromises, waiting}
pub use Rattle.promised.specs.Promised.{crash_for, links_to, watched_by, watched_link, watched_links, is_late, is_reliable, is_timely, latency, loses, lossless, needed, patience, promised}
pub use Rattle.promised.specs.declared.watching.WatchedLink.{WatchedLink}
