use Rattle.sweep.proofs.{Words.{fields_of}, Places.{at_some, at_none}}
use Rattle.sweep.proofs.picking.field_of.Goals as goal

pub returns-in-Some : goal.returns-in-Some
returns-in-Some c = at_some (fields_of c.args.fields.now) c.args.place c.in-Some.field.now c.in-Some.ensures.value

pub returns-in-None : goal.returns-in-None
returns-in-None c = at_none (fields_of c.args.fields.now) c.args.place c.in-None.ensures.value
