use Rattle.network.proofs.Refused.{no_file}
use Rattle.network.proofs.refusal.law_refusals.Goals as goal

pub returns : goal.returns
returns c = no_file
