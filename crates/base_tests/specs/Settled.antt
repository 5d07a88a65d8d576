-- Waits of the exchange of vectors.
use Rattle.std.specs.Prelude.{◌≡◌, None}
use Rattle.std.specs.FinSet as set
use Rattle.process_api.specs.{ConsensusS.{end_wait}, Mind.{AlgorithmState, Idle, Exchanging, Coordinating}, Sets.{Processes}}

-- no wait of the exchange is over
abbrev pub IsSettled : Processes → AlgorithmState → Type 0
IsSettled suspects Idle = Unit {0}
IsSettled suspects (Exchanging place s) = end_wait place.processes place.own (set.contains suspects) s ≡ None
IsSettled suspects (Coordinating place s) = Unit {0}
