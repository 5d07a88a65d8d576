use Rattle.deques.proofs.{Words.{[], learns}, Dealings.{taken_one, popped}}
use Rattle.deques.proofs.deque.Owner.pop.Goals as goal

pub pop_as-requires-clause-fifo : goal.pop_as-requires-clause-fifo
pop_as-requires-clause-fifo g c = λ _. taken_one _ _ c.self.invariant.2

pub pop_as-requires-clause-empty : goal.pop_as-requires-clause-empty
pop_as-requires-clause-empty g c = λ views b at all. learns _ _ c.self.invariant.1 all [] views b at

pub returns : goal.returns
returns g c = popped c.pop_as.result _ _ _ _ _ c.self.view_is c.pop_as.ensures.same.0.0 c.self.invariant.3 c.pop_as.ensures.rule
