-- What a process is, as plain data: its parts, and where each stands.
use Rattle.std.specs.Prelude.{ℕ, Bool, true, not, ◌&&◌, nat_le, Option, None, Some}
use Rattle.std.specs.FinSet as set
use Rattle.process_api.specs.{Place.{most_first_actions, most_second_actions, Place, same_place}, Sets.{Processes}, Detector.{DetectorState, suspected_by, has_pauses}, Reduction.{ReductionState}, ConsensusS.{Exchange}}
use Rattle.process_api.specs.Coordinator.{Coordinator}

-- the detector's part: the base detector, and the reduction over it where there is one
pub record Lower : Type 0 where
  pub place : Place
  pub detector : DetectorState
  pub reduction : Option ReductionState

-- the algorithm's part
pub data AlgorithmState : Type 0 where
  -- no algorithm
  Idle : AlgorithmState
  -- consensus with S
  Exchanging : Place → Exchange → AlgorithmState
  -- the rotating coordinator
  Coordinating : Place → Coordinator → AlgorithmState

pub record Mind : Type 0 where
  pub lower : Lower
  pub algorithm : AlgorithmState

-- the layer of the suspects that the detector's part shows: 1 of the base detector, 2 of the reduction
abbrev pub layer_of : Lower → ℕ
layer_of m = elim m.reduction [ None ↦ 1 | Some reduction ↦ 2 ]

-- how many actions the detector's part takes in one step, at most
abbrev pub most_actions : Lower → ℕ
most_actions m = elim m.reduction [ None ↦ most_first_actions | Some reduction ↦ most_second_actions ]

-- the suspects of the top layer
abbrev pub suspects_of : Lower → Processes
suspects_of m = elim m.reduction [ None ↦ suspected_by m.place m.detector | Some reduction ↦ reduction.output ]

-- among how many processes an algorithm's part stands; 0 where there is none, since it sends nothing
abbrev pub processes_of : AlgorithmState → ℕ
processes_of Idle = 0
processes_of (Exchanging place s) = place.processes
processes_of (Coordinating place s) = place.processes

-- an algorithm's part, where there is one, stands in this place
abbrev pub stands_at : Place → AlgorithmState → Bool
stands_at place Idle = true
stands_at place (Exchanging its s) = same_place its place
stands_at place (Coordinating its s) = same_place its place

-- the suspects leave out the process whose algorithm this is
abbrev pub leaves_out : Processes → AlgorithmState → Bool
leaves_out suspects Idle = true
leaves_out suspects (Exchanging place s) = not (set.contains suspects place.own)
leaves_out suspects (Coordinating place s) = not (set.contains suspects place.own)

-- the pauses of the detector's part are at least 1
abbrev pub is_paced : Lower → Bool
is_paced m = has_pauses m.detector && elim m.reduction [ None ↦ true | Some reduction ↦ nat_le 1 reduction.period ]

-- the process suspects itself on no layer
abbrev pub trusts_itself : Lower → Bool
trusts_itself m = not (set.contains (suspected_by m.place m.detector) m.place.own)
    && elim m.reduction [ None ↦ true | Some reduction ↦ not (set.contains reduction.output m.place.own) ]

-- a mind of the process that stands in this place
abbrev pub is_mind_at : Place → Mind → Bool
is_mind_at place m = (same_place m.lower.place place && is_paced m.lower)
    && (trusts_itself m.lower && stands_at place m.algorithm)
