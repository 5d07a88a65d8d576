use Rattle.{std.proofs.Common.{rules}, command_line.proofs.Words.{asks_help, is_mistaken}}
use Rattle.command_line.proofs.order.told_of.Goals as goal

pub returns-in-Ok : goal.returns-in-Ok
returns-in-Ok c prints read kinds = asks_help prints read c.args.error.now kinds (search rules)

pub returns-in-Ok-2 : goal.returns-in-Ok-2
returns-in-Ok-2 c prints read kinds = is_mistaken prints read c.args.error.now kinds (search rules) (search rules)
