-- Words of private functions.
use Rattle.std.specs.Prelude.{◌≡◌, IfOk, Result, codes}
use Rattle.{clap.specs.{Words.{App, rule_of, app_of}, declared.builder.{arg.Arg.{Arg}, command.Command.{Command}, value_parser.ValueParser.{ValueParser}}}, command_line.specs.Commands.{option_rule, IsLocal, TakesPrints, Prints, app_with}}

pub record IsPrintOption (a : Arg) : Type 0 where
  pub prints : ValueParser
  pub takes : TakesPrints prints
  pub rule : rule_of a ≡ option_rule (codes "print") prints

-- the command takes such an option too
pub record IsPrinting (app : ValueParser → App) (c : Command) : Type 0 where
  pub prints : ValueParser
  pub takes : TakesPrints prints
  pub app_is : app_of c ≡ app prints
  pub local : IsLocal c

pub record IsCommand (c : Command) : Type 0 where
  pub prints : Prints
  pub app : app_of c ≡ app_with prints
  pub local : IsLocal c

-- where a command was made it is this one
abbrev pub Makes : {E : Type 0} → App → Result Command E → Type 0
Makes app made = IfOk made (λ c. (app_of c ≡ app) × IsLocal c)
