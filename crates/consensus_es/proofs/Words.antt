-- Words and lemmas of the libraries and of this crate that several proofs use.
pub use Rattle.std.proofs.Common.{Bool, IfSome, List, None, Option, Some, [], ap, append-nil, append_assoc, arith, cond, false, inl, inr, is_some, length, length-append, mod-eq_of_lt, mod-lt, nat_eq, nat_le, nat_lt, not, refl, subst, suc, sym, true, true≢false, unwrap_or, zero, ℕ, ⊎_elim, ◌%◌, ◌&&◌, ◌*◌, ◌++◌, ◌+◌, ◌-◌, ◌/◌, ◌<◌, ◌∙◌, ◌∷◌, ◌≡◌, ◌≤◌, ◌⊎◌}
pub use Rattle.std.proofs.lemmas.Bool.{and_parts, both_ways, cases_lt, cond_both, eq-eqb, eqb-true, false≢true, ltb-false, ltb-true, not-true}
pub use Rattle.std.proofs.lemmas.Option.{none-some, same_Some}
pub use Rattle.process_api.specs.Answer.{Answer, after, still, to_all}
pub use Rattle.process_api.specs.Coordinator.{Coordinator, Kept, adopt, await, begin, best_to, better, collect, end_wait, end_waits, enter, is_decided, is_early, is_opening, is_running, is_timely, keep, leave, opening_coordinator, propose, receive, reply, settle, step_coordinator, tally, waits_left, coordinator, count_to, greatest_round, is_own, majority}
pub use Rattle.process_api.specs.Letters.{in_row}
pub use Rattle.process_api.specs.declared.action.Action.{Action}
pub use Rattle.process_api.specs.declared.consensus.Estimate.{Estimate}
pub use Rattle.process_api.specs.declared.consensus.Phase.{Phase}
pub use Rattle.process_api.specs.declared.consensus.Phase.TheVariants.{Await, Collect, Decided, Ended, Opening, Tally}
pub use Rattle.process_api.specs.declared.message.StepInput.{StepInput}
pub use Rattle.consensus_es.specs.State.{by_sender, Does, Ends, acks_of, state_of, IsOrderly, is_in_place, own_below}
