-- The command line, as clap sees it.
use Rattle.std.specs.Prelude.{◌≡◌, [], ◌∷◌, Ok, Result, Some, map, codes, false}
use Rattle.clap.specs.{Words.{App, Rule, Text, app_of, new_app, new_rule, with_rule, with_subcommand}, declared.builder.{command.Command.{Command, TheViews.{out-Command}}, value_parser.ValueParser.{ValueParser}}}
use Rattle.clap.specs.declared.builder.value_parser.ValueParser.TheVariants as parser

-- help shows one name for the value
abbrev pub path_rule : Rule
path_rule = record (new_rule (codes "path")) { value_names = 1 }

-- an option that takes a value
abbrev pub option_rule : Text → ValueParser → Rule
option_rule name values = record (new_rule name) { long = Some name; value_names = 1; parser = Some values }

-- the parser of numbers of 64 bits
abbrev pub number : ValueParser
number = parser.Unsigned 0 18446744073709551615

-- a command that takes a path
abbrev pub with_path : Text → App
with_path name = with_rule (new_app name) path_rule

abbrev pub check_app : App
check_app = with_path (codes "check")

-- the parser is that of what can be printed
abbrev pub with_print : App → (prints : ValueParser) → App
with_print app prints = with_rule app (option_rule (codes "print") prints)

abbrev pub list_app : ValueParser → App
list_app = with_print (with_path (codes "list"))

-- how the windows of a run are planned
abbrev pub with_plan : App → App
with_plan app = with_rule (with_rule app (option_rule (codes "workers") number)) (option_rule (codes "window") number)

abbrev pub run_app : ValueParser → App
run_app = with_print (with_plan (with_path (codes "run")))

abbrev pub compare_app : App
compare_app = with_plan (with_path (codes "compare"))

-- `check` and `list` added
abbrev pub with_list : App → (list : ValueParser) → App
with_list app list = with_subcommand (with_subcommand app check_app.top) (list_app list).top

-- `run` and `compare` added
abbrev pub with_windows : App → (run : ValueParser) → App
with_windows app run = with_subcommand (with_subcommand app (run_app run).top) compare_app.top

abbrev pub whole_app : (list run : ValueParser) → App
whole_app list run = with_windows (with_list (new_app (codes "fdbench")) list) run

-- the parser takes just these words
abbrev pub TakesPrints : ValueParser → Type 0
TakesPrints (parser.Names names) = map (λ n. n.now) names.now ≡ codes "trace" ∷ codes "report" ∷ codes "both" ∷ []
TakesPrints _ = ⊥

-- no argument is one of each subcommand too
abbrev pub IsLocal : Command → Type 0
IsLocal c = (out-Command c).has_globals ≡ false

-- the parsers of what `list` prints, and of what `run` prints
pub record Prints : Type 0 where
  pub list : ValueParser
  pub run : ValueParser
  pub takes_list : TakesPrints list
  pub takes_run : TakesPrints run

abbrev pub app_with : Prints → App
app_with prints = whole_app prints.list prints.run

-- the command has another beside what it had
pub record Adds {E : Type 0} (old added : Result Command E) (new : Command) : Type 0 where
  pub before : Command
  pub was : old ≡ Ok before
  pub sub : Command
  pub is : added ≡ Ok sub
  pub app : app_of new ≡ with_subcommand (app_of before) (app_of sub).top
  pub local : IsLocal new
