use Rattle.std.proofs.Common.{rules, ◌∙◌}
use Rattle.reporting.proofs.Closing.{closed_is}
use Rattle.reporting.proofs.meter.Meter.close.Goals as goal

pub returns-clause-value : goal.returns-clause-value
returns-clause-value c = search rules

pub returns-clause-measures : goal.returns-clause-measures
returns-clause-measures c = λ S layer q p trace h. returns-clause-value c ∙ closed_is S layer q p trace c.args.self h
