use Rattle.consensus_s.proofs.Settled.{settled}
use Rattle.consensus_s.proofs.laws.law_settled.Goals as goal

pub returns-clause-over : goal.returns-clause-over
returns-clause-over c n own is_suspected input s = settled n own is_suspected input s
