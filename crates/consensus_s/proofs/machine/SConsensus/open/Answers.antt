use Rattle.std.proofs.Common.{ap}
use Rattle.consensus_s.proofs.machine.SConsensus.open.Goals as goal

pub invariant_of-result : goal.invariant_of-result
invariant_of-result c = record { orderly = λ alive r later. ap (λ s. s.kept r c.args.opening.now.own) c.in_ok-exchange.ensures }
