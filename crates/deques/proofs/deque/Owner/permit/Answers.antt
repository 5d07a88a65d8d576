use Rattle.{ledger.proofs.Ledgers.{told}, deques.proofs.Dealings.{may_tell}}
use Rattle.deques.proofs.deque.Owner.permit.Goals as goal

pub another-pass-requires : goal.another-pass-requires
another-pass-requires g c = told _ _ c.self.invariant.1 c.self.invariant.2 (may_tell _ _ _ c.self.view_is c.self.invariant.3 c.requires)
