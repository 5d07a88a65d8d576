use Rattle.command_line.proofs.Basics.{◌∙◌, found_of, first_value-rows}
use Rattle.command_line.proofs.order.text_at.Goals as goal

pub returns : goal.returns
returns c = c.get_str.ensures ∙ first_value-rows (found_of c.args.found.now) c.args.id.now
