-- Words and lemmas of the libraries and of this crate that several proofs use.
pub use Rattle.std.proofs.Common.{Bool, List, Option, Some, ap, arith, codes, decimal, false, inl, inr, length, map, refl, rules, subst, sym, true, ℕ, ◌++◌, ◌<◌, ◌∙◌, ◌≡◌, ◌≢◌, ◌⊎◌}
pub use Rattle.std.proofs.lemmas.Result.{IfErr-weaker}
pub use Rattle.command_line.specs.Order.{AsksHelp, Explains, States}
pub use Rattle.process_api.specs.declared.print_choice.PrintChoice.TheVariants.{Both}
pub use Rattle.process_api.specs.declared.run_error.RunError.TheVariants.{Limit, Memory}
pub use Rattle.reporting.specs.ReportText.{printed, prints_trace}
pub use Rattle.scenario_record.specs.Record.{Record}
pub use Rattle.shell.proofs.Going.{for_help, for_order, goes_as, tells_as}
pub use Rattle.trace_laws.proofs.Closed.{has_trace, one_trace}
pub use Rattle.trace_laws.specs.Setting.{setting_of}
pub use Rattle.bench_commands.specs.Answer.{Answers, AnswersOver, IsListAnswer, IsRunFront, Leaves, LeavesBy, LeavesOver, Writes, WritesBy, WritesOver, path_of}
pub use Rattle.bench_commands.specs.Fault.{after_name, end_of, line_of, status_of}
pub use Rattle.bench_commands.specs.Serve.{IsHelp, IsReason, IsRunAsked, TellsOf}
pub use Rattle.bench_commands.specs.Why.{StopsBefore, StopsBy, StopsFor}
pub use Rattle.bench_commands.specs.declared.fault.Fault.TheVariants.{Different, Plan, Run}
