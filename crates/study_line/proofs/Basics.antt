-- Words and lemmas of the libraries and of this crate that several proofs use.
pub use Rattle.std.proofs.Common.{Bor, Err, IfErr, IfOk, List, None, Ok, Option, Result, Some, [], ap, codes, map, option_map, refl, rules, subst, sym, true, ℕ, ◌++◌, ◌||◌, ◌∙◌, ◌≡◌}
pub use Rattle.std.proofs.lemmas.Result.{IfOk-at_ok, IfOk-weaker}
pub use Rattle.clap.proofs.WalkLemmas.{first_value-rows, one_text-rows, raw_values-rows}
pub use Rattle.clap.specs.Words.{App, HasKind, HasMatchesOf, ReadsOne, Row, Text, app_of, fault_of, found_of, is_simple, is_simple_and_free, new_app, one_of, one_text, rows_of, rule_of, subcommand_of, subcommand_rows_of, with_rule, with_subcommand}
pub use Rattle.study_line.specs.Commands.{IsLocal, path_rule, top_app, whole_app}
pub use Rattle.study_line.specs.Order.{Explains, IsNumberAt, MayBeUnsignedAt, States, StatesFound, StatesIn}
pub use Rattle.study_line.specs.Inside.Private.{Lacks}
