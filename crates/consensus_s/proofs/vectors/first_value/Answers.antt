use Rattle.consensus_s.proofs.{Words.{◌∙◌, ap, sym, cell}, Counting.{first_is}}
use Rattle.consensus_s.proofs.vectors.first_value.Goals as goal

pub returns-then-is_some : goal.returns-then-is_some
returns-then-is_some c =
    sym (first_is c.args.n c.loop-before.before (cell c.args.cells.now) c.get-value.result c.loop-before-test.true c.loop-before.invariant
    (ap (cell c.args.cells.now) (sym c.after.ensures) ∙ sym c.get-value.ensures) (sym c.is_some.ensures ∙ c.if-is_some.true))
