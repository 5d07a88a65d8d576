-- What the words of a command line state.
use Rattle.std.specs.{Prelude.{◌≡◌, ◌≢◌, [], ℕ, nat_eq, Bool, List, Ok, Option, Some, codes, if◌then◌else◌}, Cmp.Lexicographic.{pointwise}, Option.{option_map_or}, Str.Parse.{ParsesUnsigned}, declared.num.ParseIntError.{ParseIntError}}
use Rattle.clap.specs.{Words.{Row, Text, subcommand_of, first_of, one_of, fault_of, IsAmong}, declared.error.kind.ErrorKind.{ErrorKind, TheVariants.{DisplayHelp}}}
use Rattle.command_line.specs.{Commands.{Prints, app_with}, declared.order.{Order.{Order}, WordsError.{WordsError}}}
use Rattle.command_line.specs.declared.order.Order.TheVariants as order
use Rattle.command_line.specs.declared.order.WordsError.TheVariants as refusal
use Rattle.process_api.specs.declared.print_choice.PrintChoice.{PrintChoice}
use Rattle.process_api.specs.declared.print_choice.PrintChoice.TheVariants as choice

abbrev pub StatesCheck : List Row → Order → Type 0
StatesCheck rows (order.Check path) = first_of (codes "path") rows ≡ Some path.now
StatesCheck rows _ = ⊥

-- the number that an argument's text writes
abbrev pub IsNumberAt : Text → List Row → ℕ → Type 0
IsNumberAt id rows n =
    (text : Text) × (one_of id rows ≡ Some text) × ParsesUnsigned {E = ParseIntError} 64 10 text (Ok n)

abbrev pub same_text : Text → Text → Bool
same_text = pointwise nat_eq

-- what a word that the parser takes stands for
unfoldable pub choice_of : Text → PrintChoice
choice_of word = if same_text word (codes "trace") then choice.Trace
    else if same_text word (codes "both") then choice.Both
    else choice.Report

-- the report is printed where nothing is said
abbrev pub StatesPrint : List Row → PrintChoice → Type 0
StatesPrint rows print = print ≡ option_map_or choice_of (first_of (codes "print") rows) choice.Report

abbrev pub StatesList : List Row → Order → Type 0
StatesList rows (order.List path print) = (first_of (codes "path") rows ≡ Some path.now) × StatesPrint rows print
StatesList rows _ = ⊥

abbrev pub StatesRun : List Row → Order → Type 0
StatesRun rows (order.Run path workers window print) = (first_of (codes "path") rows ≡ Some path.now)
    × IsNumberAt (codes "workers") rows workers × IsNumberAt (codes "window") rows window × StatesPrint rows print
StatesRun rows _ = ⊥

abbrev pub StatesCompare : List Row → Order → Type 0
StatesCompare rows (order.Compare path workers window) = (first_of (codes "path") rows ≡ Some path.now)
    × IsNumberAt (codes "workers") rows workers × IsNumberAt (codes "window") rows window
StatesCompare rows _ = ⊥

-- the order is what the subcommand of this name says by its own arguments
abbrev pub StatesIn : Text → List Row → Order → Type 0
StatesIn name rows (order.Check path) = (name ≡ codes "check") × StatesCheck rows (order.Check path)
StatesIn name rows (order.List path print) = (name ≡ codes "list") × StatesList rows (order.List path print)
StatesIn name rows (order.Run path workers window print) =
    (name ≡ codes "run") × StatesRun rows (order.Run path workers window print)
StatesIn name rows (order.Compare path workers window) =
    (name ≡ codes "compare") × StatesCompare rows (order.Compare path workers window)

-- the order is what the subcommand that was found says
abbrev pub StatesFound : Option (Text × List Row) → Order → Type 0
StatesFound met asked = (found : Text × List Row) × (met ≡ Some found) × StatesIn found.0 found.1 asked

-- the order is what clap finds in the words, as in a simple command
pub record States (words : List Text) (asked : Order) : Type 0 where
  pub prints : Prints
  pub found : Text × List Row
  pub met : subcommand_of (app_with prints) words ≡ Some found
  pub stated : StatesIn found.0 found.1 asked

-- the subcommand of this name and its arguments are no whole order
abbrev pub StatesNothingIn : Text → List Row → Type 0
StatesNothingIn name rows = (asked : Order) → StatesIn name rows asked → ⊥

-- the subcommand that was found, if any, and its arguments are no whole order
abbrev pub StatesNothingFound : Option (Text × List Row) → Type 0
StatesNothingFound met = (found : Text × List Row) → met ≡ Some found → StatesNothingIn found.0 found.1

-- clap takes the words, and what it finds in them is no whole order
pub record StatesNothing (words : List Text) : Type 0 where
  pub prints : Prints
  pub taken : fault_of (app_with prints) words ≡ []
  pub nothing : StatesNothingFound (subcommand_of (app_with prints) words)

pub record AsksHelp (words : List Text) : Type 0 where
  pub prints : Prints
  pub help : IsAmong DisplayHelp (fault_of (app_with prints) words)

-- clap refuses them for another reason
pub record IsMistaken (words : List Text) : Type 0 where
  pub prints : Prints
  pub kind : ErrorKind
  pub other : kind ≢ DisplayHelp
  pub called_for : IsAmong kind (fault_of (app_with prints) words)

-- what is told of the words
abbrev pub Explains : List Text → WordsError → Type 0
Explains words (refusal.Help text) = AsksHelp words
Explains words (refusal.Mistake text) = IsMistaken words
Explains words refusal.Form = StatesNothing words
Explains words refusal.Memory = Unit {0}
