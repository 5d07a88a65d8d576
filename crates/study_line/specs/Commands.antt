-- The command line, as clap sees it.
use Rattle.std.specs.Prelude.{◌≡◌, [], ◌∷◌, Bool, Some, codes, false, true}
use Rattle.clap.specs.{Words.{App, Rule, Text, new_app, new_rule, with_rule, with_subcommand}, declared.builder.{action.ArgAction.TheVariants.{Append}, command.Command.{Command, TheViews.{out-Command}}}}
use Rattle.clap.specs.declared.builder.value_parser.ValueParser.TheVariants as parser

-- help shows one name for the value
abbrev pub path_rule : Rule
path_rule = record (new_rule (codes "path")) { value_names = 1; required = true }

-- an option that takes a value
abbrev pub option_rule : Text → Rule
option_rule name = record (new_rule name) { long = Some name; value_names = 1 }

-- an option that may be there several times, each time with a value
abbrev pub repeated_rule : Text → Rule
repeated_rule name = record (option_rule name) { action = Some Append }

abbrev pub with_axes : App → App
with_axes app = with_rule (with_rule (with_rule app (repeated_rule (codes "vary"))) (repeated_rule (codes "over")))
    (repeated_rule (codes "deal"))

-- the runs of a study: some commands are nothing without seeds
abbrev pub with_grid : (needed : Bool) → App → App
with_grid needed app = with_axes (with_rule app (record (option_rule (codes "seeds")) { required = needed }))

-- points count from 1
abbrev pub point_rule : Rule
point_rule = record (option_rule (codes "point")) {
  parser = Some (parser.Unsigned 1 18446744073709551615);
  required = true;
}

-- runs count from 1, and where nothing is said the first is meant
abbrev pub run_rule : Rule
run_rule = record (option_rule (codes "run")) {
  parser = Some (parser.Unsigned 1 18446744073709551615);
  defaults = codes "1" ∷ [];
}

abbrev pub threads_rule : Rule
threads_rule = record (option_rule (codes "threads")) { parser = Some (parser.Unsigned 1 64) }

abbrev pub picture_rule : Rule
picture_rule = record (option_rule (codes "as")) { required = true }

-- ticks are of 32 bits
abbrev pub tick_rule : Text → Rule
tick_rule name = record (option_rule name) { parser = Some (parser.Unsigned 0 4294967295) }

-- which ticks are drawn
abbrev pub with_ticks : App → App
with_ticks app = with_rule (with_rule app (tick_rule (codes "from"))) (tick_rule (codes "until"))

-- a command that takes a scenario's file, and perhaps a network's and what is set in them
abbrev pub with_path : Text → App
with_path name = with_rule (with_rule (with_rule (new_app name) path_rule) (option_rule (codes "network")))
    (repeated_rule (codes "set"))

-- what the table of a study has
abbrev pub with_table : App → App
with_table app = with_rule (with_rule (with_rule app (option_rule (codes "columns"))) (option_rule (codes "each")))
    (repeated_rule (codes "pairs"))

-- a command that takes a path and a study
abbrev pub study_app : (needed : Bool) → Text → App
study_app needed name =
    with_table (with_rule (with_rule (with_grid needed (with_path name)) (option_rule (codes "shard"))) threads_rule)

abbrev pub check_app : App
check_app = study_app false (codes "check")

abbrev pub letters_app : App
letters_app = with_path (codes "letters")

abbrev pub draw_app : App
draw_app = with_rule (with_ticks (with_rule (with_path (codes "draw")) picture_rule)) (option_rule (codes "of"))

abbrev pub show_app : App
show_app = with_rule (with_rule (with_grid true (with_path (codes "show"))) point_rule) run_rule

abbrev pub sweep_app : App
sweep_app = study_app true (codes "sweep")

-- the program's command, which has a version, and is nothing without one of these
abbrev pub top_app : App
top_app = let app = new_app (codes "fdstudy") in
    record app { top = record app.top { subcommand_required = true; has_version = true } }

-- the commands about one scenario
abbrev pub with_scenario : App → App
with_scenario app = with_subcommand (with_subcommand (with_subcommand app check_app.top) letters_app.top) draw_app.top

-- and the commands about a study
abbrev pub whole_app : App
whole_app = with_subcommand (with_subcommand (with_scenario top_app) show_app.top) sweep_app.top

-- no argument is one of each subcommand too
abbrev pub IsLocal : Command → Type 0
IsLocal c = (out-Command c).has_globals ≡ false
