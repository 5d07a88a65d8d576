use Rattle.consensus_es.proofs.{Words.{ap, subst, sym, length, arith, step_coordinator, IsOrderly, state_of, not-true}, Bound.{same_itself, step_few, within}}
use Rattle.std.specs.FinSet as set
use Rattle.process_api.proofs.Allowed.{algorithm_allowed}
use Rattle.process_api.specs.{Mind.{Coordinating}, React.{react_algorithm}}
use Rattle.consensus_es.specs.Inside.Steps.{place_of, algorithm_of}
use Rattle.consensus_es.proofs.consensus.EsConsensusAlgorithm.take.Goals as goal

pub invariant_of-self-2 : goal.invariant_of-self-2
invariant_of-self-2 c =
    let m = c.args.self.now.membership in
    let s = state_of c.args.self.now.progress in
    let few = step_few m.processes m.own m.from_one m.one_of_them (set.contains c.args.suspects.now) (not-true _ c.requires) c.args.input.now s (c.args.self.now.orderly c.if-self.false) in
    record { orderly = λ alive. subst (IsOrderly m.processes m.own) (sym c.in_ok-take.ensures.state) few.0 }

pub returns-clause-state : goal.returns-clause-state
unfolding react_algorithm
returns-clause-state c = ap (Coordinating (place_of c.args.self.now)) c.in_ok-take.ensures.state

pub returns-clause-actions : goal.returns-clause-actions
unfolding react_algorithm
returns-clause-actions c = c.in_ok-take.ensures.actions

pub returns-clause-allowed : goal.returns-clause-allowed
returns-clause-allowed c =
    let m = c.args.self.now.membership in
    let place = place_of c.args.self.now in
    algorithm_allowed place (algorithm_of c.args.self.now) c.args.input.now c.args.suspects.now (omega (arith, m.from_one, m.one_of_them)) (same_itself place)

pub returns-clause-few : goal.returns-clause-few
unfolding react_algorithm
returns-clause-few c =
    let m = c.args.self.now.membership in
    let s = state_of c.args.self.now.progress in
    let q = set.contains c.args.suspects.now in
    let bound = step_few m.processes m.own m.from_one m.one_of_them q (not-true _ c.requires) c.args.input.now s (c.args.self.now.orderly c.if-self.false) in
    within (length (step_coordinator m.processes m.own q c.args.input.now s).actions) m.processes bound.1 m.few
