use Rattle.std.proofs.Common.{◌≡◌, get_or}
use Rattle.diagnosis.specs.Diagnosis.{edits}
use Rattle.diagnosis.proofs.{Likenesses.{no_field, nearer, farther, ended}, keys.most_alike.Goals.{then-edits-least, else-edits-least}}
use Rattle.diagnosis.proofs.keys.most_alike.Goals as goal

pub loop-field-preserved : goal.loop-field-preserved
loop-field-preserved c =
    let counted : c.in_ok-edits.edits ≡ edits c.args.key.now (get_or c.args.fields.now c.loop-field.field-index no_field).key.now = c.in_ok-edits.ensures in
    elim c.if-edits-least.branch [
      | then-edits-least w ↦ rw (w.best-is, w.least-is) (nearer c.args.fields.now c.loop-field.field-index c.args.key.now c.loop-field.best c.loop-field.least c.in_ok-edits.edits c.loop-field-test.true counted w.if-edits-least.true c.loop-field.invariant)
      | else-edits-least w ↦ rw (w.best-is, w.least-is) (farther c.args.fields.now c.loop-field.field-index c.args.key.now c.loop-field.best c.loop-field.least c.in_ok-edits.edits c.loop-field-test.true counted w.if-edits-least.false c.loop-field.invariant)
    ]

pub returns : goal.returns
returns c = ended c.args.fields.now c.loop-field.field-index c.args.key.now c.loop-field.best c.loop-field.least c.loop-field-test.false c.loop-field.invariant
