-- The mind with which a process opens.
use Rattle.{std.specs.Prelude.{None, option_map, unwrap_or}, scenario_record.specs.declared.opening.Opening.{Opening}}
use Rattle.process_api.specs.{Place.{Place}, Detector.{opening_detector}, Reduction.{opening_reduction}, ConsensusS.{opening_exchange}, Coordinator.{opening_coordinator}, Mind.{Lower, AlgorithmState, Idle, Exchanging, Coordinating, Mind}}
use Rattle.scenario_record.specs.declared.algorithm.AlgorithmKind.TheVariants as kind

abbrev pub place_of : Opening → Place
place_of o = record { own = o.own; processes = o.processes; horizon = o.horizon }

-- the base detector alone
abbrev pub base_of : Opening → Lower
base_of o = record { place = place_of o; detector = opening_detector o.detector; reduction = None }

-- the detector, and the reduction where there is one
abbrev pub lower_of : Opening → Lower
lower_of o = record (base_of o) { reduction = option_map opening_reduction o.share }

-- the algorithm's part. There is a proposal where there is an algorithm
abbrev pub algorithm_of : Opening → AlgorithmState
algorithm_of o = elim o.algorithm [
  | kind.Idle ↦ Idle
  | kind.Strong ↦ Exchanging (place_of o) (opening_exchange o.processes o.own (unwrap_or o.proposal 0))
  | kind.EventuallyStrong ↦ Coordinating (place_of o) (opening_coordinator (unwrap_or o.proposal 0))
]

abbrev pub mind_of : Opening → Mind
mind_of o = record { lower = lower_of o; algorithm = algorithm_of o }
