-- Words and lemmas of the libraries and of this crate that several proofs use.
pub use Rattle.std.proofs.Common.{Bool, IfSome, List, None, Option, Some, [], ap, append-nil, append_assoc, arith, cond, false, inl, inr, is_some, length, nat_eq, nat_le, nat_lt, not, refl, subst, suc, sym, true, true≢false, unwrap_or, zero, ℕ, ◌&&◌, ◌++◌, ◌+◌, ◌<◌, ◌||◌, ◌∙◌, ◌≡◌, ◌≤◌, ◌⊎◌}
pub use Rattle.std.proofs.lemmas.Bool.{and_parts, both_ways, cond_both, eqb-true, leb-false, leb-true, lt-ltb, ltb-false, ltb-true, not-true}
pub use Rattle.std.proofs.lemmas.Bool.Decides.{nat_tests}
pub use Rattle.std.proofs.lemmas.Result.{on_ok_weaker}
pub use Rattle.process_api.specs.Rows.{Vector, cell}
pub use Rattle.process_api.specs.ConsensusS.{Exchange, above, all_to, any_to, begin, cells_of, decide, end_wait, end_waits, enter, first_to, gather, is_over, is_running, is_timely, keep, or_else, receive, receive_cells, step_exchange, waits_left}
pub use Rattle.consensus_s.specs.State.{kept_of, missed_in, told_in, IsOrderly, end_one, exchange_of}
