use Rattle.deques.proofs.{Words.{ap, Account}, Dealings.{taken_one, live_permit, stole}}
use Rattle.deques.proofs.deque.Front.attempt.Goals as goal

pub steal_as-requires-clause-takes : goal.steal_as-requires-clause-takes
steal_as-requires-clause-takes g c = taken_one _ _ (live_permit _ _ _ c.permit.invariant.2)

pub returns : goal.returns
returns g c =
    stole c.steal_as.result _ _ _ _ _ _ _ c.permit.view_is (λ i. (c.steal_as.ensures.same.0 i, c.steal_as.ensures.same.1 i)) (ap (λ (a : Account _). a.told) c.permit.invariant.2) c.steal_as.ensures.rule
