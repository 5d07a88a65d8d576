use Rattle.reporting.proofs.{Words.{◌∙◌, refl, counted, new_tally, tracked}, Passes.{tallies_seen}}
use Rattle.judges.proofs.Closing.{judging_closed}
use Rattle.reporting.proofs.layer.Layer.close.Goals as goal

pub returns-clause-verdicts : goal.returns-clause-verdicts
returns-clause-verdicts c = λ listed S layer trace h. c.grid_verdicts.ensures ∙ judging_closed counted tracked new_tally refl tallies_seen S layer trace c.args.self.pairs h.metering

pub returns-clause-lengths : goal.returns-clause-lengths
returns-clause-lengths c = λ S layer trace h. c.in_ok-close.ensures S layer trace (h.lengths refl) h.metering
