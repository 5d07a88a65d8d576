use Rattle.std.proofs.lemmas.List.Elements.{All-from_recursion}
use Rattle.std.specs.FinSet as set
use Rattle.process_api.proofs.Allowed.{exchange_allowed}
use Rattle.{process_api.specs.{Answer.{IsAllowed}, React.{react_algorithm}}, consensus_s.specs.State.{exchange_of}}
use Rattle.consensus_s.proofs.machine.SConsensusAlgorithm.take.Goals as goal

pub returns-clause-allowed : goal.returns-clause-allowed
unfolding react_algorithm
returns-clause-allowed c =
    let o = c.args.self.now.opening in
    All-from_recursion (IsAllowed o.processes) _ (exchange_allowed o.processes o.own (set.contains c.args.suspects.now) c.args.input.now (exchange_of c.args.self.now.exchange))
