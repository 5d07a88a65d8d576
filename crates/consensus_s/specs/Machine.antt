-- What a machine's part is, as plain data.
use Rattle.{std.specs.Prelude.{unwrap_or}, process_api.specs.{ConsensusS.{opening_exchange}, Mind.{AlgorithmState, Exchanging}}, scenario_record.specs.{Opening.{place_of}, declared.opening.Opening.{Opening}}}
use Rattle.consensus_s.specs.{declared.machine.SConsensus.{SConsensus}, State.{exchange_of}}

abbrev pub state_of : SConsensus → AlgorithmState
state_of s = Exchanging (place_of s.opening) (exchange_of s.exchange)

-- how the process of an opening begins, with its proposal
abbrev pub opening_algorithm : Opening → AlgorithmState
opening_algorithm o = Exchanging (place_of o) (opening_exchange o.processes o.own (unwrap_or o.proposal 0))
