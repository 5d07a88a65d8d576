-- Words and lemmas of the libraries and of this crate that several proofs use.
pub use Rattle.std.proofs.Common.{Bool, Equal, IsTrue, Less, List, None, Option, Ordering, Some, T, [], ap, append-nil, append_assoc, arith, cond, false, filter, get_or, if◌then◌else◌, inl, inr, is_eq, is_lt, length, length-append, lit≤, map, max, min, nat_cmp, nat_eq, nat_le, nat_lt, not, option_map, refl, replicate, subst, suc, sym, true, zero, ℕ, ◌%◌, ◌&&◌, ◌*◌, ◌++◌, ◌+◌, ◌-◌, ◌<◌, ◌==◌, ◌||◌, ◌↔◌, ◌∙◌, ◌∷◌, ◌≡◌, ◌≢◌, ◌≤◌, ◌⊎◌}
pub use Rattle.std.proofs.lemmas.Bool.{cases_eq, cases_lt, cond_both, eq-eqb, eqb-false, eqb-true, false_from_ne_true, ltb-true, ne_eqb}
pub use Rattle.std.proofs.lemmas.List.{get_or-replicate, get_or_past, length-map, length-replicate, map-append}
pub use Rattle.std.specs.FinMap.Entries.{below_all, put}
pub use Rattle.std.specs.List.{AllByRecursion, list_all}
pub use Rattle.std.specs.Option.{ForSome}
pub use Rattle.std.specs.Ordering.{eq_by_cmp}
pub use Rattle.process_api.proofs.KeyOrder.{before_by_tick, before_or_not, exact_keys, keys_total, not_before_itself, not_both, same_or_not, ticks_rise}
pub use Rattle.process_api.proofs.Minds.{and_true, both_true}
pub use Rattle.process_api.specs.Answer.{Answer}
pub use Rattle.process_api.specs.Order.{EntryRecord, is_before, is_less, is_rising, key_cmp}
pub use Rattle.process_api.specs.Mind.{Idle, Mind, is_mind_at, stands_at}
pub use Rattle.process_api.specs.Place.{change, numbers_to, Place, same_place}
pub use Rattle.process_api.specs.declared.action.Action.{Action}
pub use Rattle.process_api.specs.declared.key.Key.{Key}
pub use Rattle.process_api.specs.declared.message.StepInput.{StepInput}
pub use Rattle.process_api.specs.declared.message.StepInput.TheVariants.{Start}
pub use Rattle.process_api.specs.declared.numbers.TimeoutNumbers.{TimeoutNumbers}
pub use Rattle.scenario_record.specs.Ranges.{IsInRange, IsLink}
pub use Rattle.scenario_record.specs.Record.{Record, link, no_link, opening_algorithm, opening_mind, place_in}
pub use Rattle.scenario_record.specs.declared.link.Link.{Link}
pub use Rattle.streams.specs.Fate.{fate_by, is_cut, word}
unfoldable pub use Rattle.streams.specs.Fate.{fate_of}
pub use Rattle.streams.specs.declared.fate.Fate.TheVariants.{Delay, Lost}
pub use Rattle.trace_laws.specs.History.{IsClosed, IsIn, IsOnly}
pub use Rattle.trace_laws.specs.World.{plain_left, plain_starts, plain_steps, puts, Has, IsLeast, IsTrace, IsWorld, NoneBelow, Run, World, entries, joined, made, opening, opening_process, start_of, starts, taken}
pub use Rattle.trace_laws.specs.Setting.{setting_of, IsProcess, IsSlow, IsSound, Setting, has_crashed}
pub use Rattle.trace_laws.specs.Step.{Event, Events, Made, Process, added, by_fate, counted, counts_after, dead, in_time, joining, kind_of, lost, lost_by, made_by, noted, raised, sent, step}
