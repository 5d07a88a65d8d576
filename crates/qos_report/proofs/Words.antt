-- Words and lemmas of the libraries and of this crate that several proofs use.
pub use Rattle.std.proofs.Common.{Bool, Err, List, None, Ok, OnErr, OnOk, Option, Result, Some, [], ap, append-nil, append_assoc, arith, drop, false, inl, inr, length, refl, rules, subst, suc, sym, take, true, true≢false, ℕ, ◌++◌, ◌+◌, ◌<◌, ◌^◌, ◌∙◌, ◌∷◌, ◌≡◌, ◌≢◌, ◌≤◌, ◌⊎◌}
pub use Rattle.std.proofs.lemmas.List.{length-append, take_all, take_more}
pub use Rattle.std.specs.Prelude.{IsTrue}
pub use Rattle.process_api.specs.Order.{EntryRecord}
pub use Rattle.process_api.specs.declared.run_error.RunError.{RunError}
pub use Rattle.process_api.specs.declared.run_error.RunError.TheVariants.{Limit, Memory, Write}
pub use Rattle.reporting.proofs.Fed.{err_part, if_reason, on_ok, split_at}
pub use Rattle.reporting.proofs.Written.{part_of_more, rows_both, rows_one, wrote_both, wrote_nothing, wrote_then_part}
pub use Rattle.reporting.specs.ReportText.{report_text}
pub use Rattle.reporting.specs.Rows.{row_of, written}
pub use Rattle.reporting.specs.Running.{IsTextWhere, Running, RunningFollowed}
pub use Rattle.reporting.specs.TraceText.{Holds, fields_of, handed, rows_text}
unfoldable pub use Rattle.reporting.specs.TraceText.{trace_header, trace_text}
pub use Rattle.reporting.specs.Outlet.{Wrote, WroteNothing, WrotePart}
pub use Rattle.scenario_record.specs.Record.{Record}
pub use Rattle.trace_laws.proofs.Closed.{has_trace, trace_rises}
pub use Rattle.trace_laws.proofs.Sound.{setting_sound}
pub use Rattle.trace_laws.specs.Setting.{setting_of, IsSound}
pub use Rattle.trace_laws.specs.World.{IsTrace}
pub use Rattle.windows.proofs.Handed.{on_err}
pub use Rattle.windows.specs.Stage.{TookAll, TookFront, TookTrace, writes_of}
pub use Rattle.qos_report.specs.Inside.Streaming.{AreUnderWay, StreamedFront, StreamedTrace, TookFrontOfPart, TookPart, WroteFirst, WroteFront, WroteWhere}
