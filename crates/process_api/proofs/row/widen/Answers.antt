use Rattle.process_api.proofs.{Basics.{◌∙◌, ap, cell_of}, Rows.{pushed}}
use Rattle.process_api.proofs.row.widen.Goals as goal

pub wide-preserved : goal.wide-preserved
wide-preserved g c = ap cell_of c.in_ok-push.ensures.items ∙ (pushed c.wide.cells.items ∙ c.wide.invariant)

pub returns-in_err-push-clause-same : goal.returns-in_err-push-clause-same
returns-in_err-push-clause-same g c = ap cell_of c.in_err-push.ensures.items ∙ c.wide.invariant
