use Rattle.process_api.proofs.{Basics.{◌∙◌, ap, by_number, by_row}, Dropping.{since_rows}}
use Rattle.process_api.proofs.letters.Letters.drop_before.Goals as goal

pub returns : goal.returns
returns g c = ap by_row c.drop_rounds_before.ensures ∙ since_rows c.args.round (by_number c.args.self.now.rows)
