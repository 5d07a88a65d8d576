-- Words and lemmas of the libraries and of this crate that several proofs use.
pub use Rattle.std.proofs.Common.{List, Some, [], ap, append-nil, append_assoc, arith, cond, false, get_or, inl, inr, length, map, option_map, refl, replicate, slice_get, slice_index_or, slice_set, subst, suc, sym, vec_len, zero, ℕ, ◌++◌, ◌+◌, ◌-◌, ◌<◌, ◌∙◌, ◌∷◌, ◌≡◌, ◌≤◌}
pub use Rattle.std.proofs.lemmas.Bool.{cases_lt, eqb-true}
pub use Rattle.std.proofs.lemmas.List.{drop-set-lt, drop_all, drop_more, get_or_append_left, get_or_push, length-replicate, length-set}
pub use Rattle.std.specs.List.{All, AllByRecursion}
pub use Rattle.std.specs.Prelude.{Err, Ok, OnOk, Result, drop}
pub use Rattle.process_api.specs.Answer.{IsAllowed}
pub use Rattle.process_api.specs.Mind.{Mind, is_mind_at}
pub use Rattle.process_api.specs.declared.action.Action.{Action}
pub use Rattle.scenario_record.specs.Record.{Record, crash, opening_mind, place_in}
pub use Rattle.trace_laws.proofs.Joining.{Joined, all_joined, joined_init, joined_next}
pub use Rattle.trace_laws.specs.Taken.{HaveJoined, StillServes}
pub use Rattle.trace_laws.specs.Setting.{setting_of, Setting, has_crashed}
pub use Rattle.trace_laws.specs.Step.{added, counted, counts_after, dead, joining, lost, lost_by, made_by, noted, noted_by, sent, sent_by}
pub use Rattle.steps.specs.Posting.{posted_by, posting}
pub use Rattle.steps.specs.Seat.{IsMindIn, IsSeated, count_of, own_of, process_of}
