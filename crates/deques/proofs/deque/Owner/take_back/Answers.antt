use Rattle.ledger.proofs.Ledgers.{merges}
use Rattle.deques.proofs.deque.Owner.take_back.Goals as goal

pub absorb-requires-clause-rule : goal.absorb-requires-clause-rule
absorb-requires-clause-rule g c = merges _ _ _ _ c.self.invariant.1 c.self.invariant.2
