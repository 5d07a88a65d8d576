use Rattle.consensus_es.proofs.{Words.{subst, sym, IsOrderly}, Bound.{opening_orderly}}
use Rattle.consensus_es.proofs.consensus.EsConsensus.open.Goals as goal

pub invariant_of-result : goal.invariant_of-result
invariant_of-result c =
    let n = c.new.result.processes in
    let own = c.new.result.own in
    record { orderly = λ alive. subst (IsOrderly n own) (sym c.open.ensures) (opening_orderly n own c.unwrap.result) }
