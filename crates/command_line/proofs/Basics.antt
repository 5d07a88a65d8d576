-- Words and lemmas of the libraries and of this crate that several proofs use.
pub use Rattle.std.proofs.Common.{Err, IfOk, IfSome, IsNone, List, None, Ok, Option, Result, Some, [], ap, codes, false, inl, inr, refl, rules, subst, sym, true, ℕ, ◌∙◌, ◌≡◌, ◌≢◌}
pub use Rattle.clap.proofs.WalkLemmas.{first_value-rows, one_text-rows}
pub use Rattle.clap.specs.Words.{App, HasKind, HasMatchesOf, IsAmong, ReadsOne, Row, Text, app_of, fault_of, found_of, is_simple, is_simple_and_free, kind_of, new_app, one_text, rows_of, subcommand_of, subcommand_rows_of, with_rule, with_subcommand}
pub use Rattle.clap.specs.declared.builder.command.Command.{Command}
pub use Rattle.command_line.specs.Commands.{Adds, IsLocal, Prints, app_with, check_app, compare_app, list_app, run_app, whole_app}
pub use Rattle.command_line.specs.Inside.Private.{IsCommand, IsPrinting, Makes}
