-- What a scenario says.
use Rattle.std.specs.Prelude.{ℕ, ◌+◌, ◌-◌, ◌*◌, List, [], get_or, slice_get, Option, None, option_map, unwrap_or, nat_le, nat_lt, Bool, ◌&&◌}
use Rattle.process_api.specs.{Place.{Place}, Detector.{opening_detector}, Reduction.{opening_reduction}, ConsensusS.{opening_exchange}, Coordinator.{opening_coordinator}, Mind.{AlgorithmState, Idle, Exchanging, Coordinating, Mind}}
use Rattle.{process_api.specs.declared.numbers.DetectorNumbers.{DetectorNumbers}, scenario_record.specs.declared.{algorithm.AlgorithmKind.{AlgorithmKind}, link.Link.{Link}, outage.Outage.{Outage}}}
use Rattle.scenario_record.specs.declared.algorithm.AlgorithmKind.TheVariants as kind

pub record Record : Type 0 where
  pub processes : ℕ
  pub horizon : ℕ
  pub lookahead : ℕ
  -- how many entries the trace may have
  pub limit : ℕ
  pub seed : ℕ
  pub algorithm : AlgorithmKind
  pub detector : DetectorNumbers
  -- ticks between two shares; none where there is no reduction
  pub share : Option ℕ
  -- what the processes propose, of process 1 first; nothing where there is no algorithm
  pub proposals : List ℕ
  -- for each process the tick at which it crashes, if it does
  pub crashes : List (Option ℕ)
  -- what the link from each process to each does to letters, by sender and then by receiver
  pub links : List Link
  -- the outages of the link from each process to each, in the same order; nothing where no link has one
  pub outages : List (List Outage)

-- between processes that aren't there
abbrev pub no_link : Link
no_link = record { min = 0; max = 0; loss = 0 }

module _ (s : Record) where
  -- what process p proposes; none above the number of processes
  abbrev pub proposal : ℕ → Option ℕ
  proposal p = slice_get s.proposals (p - 1)

  -- the tick at which process p crashes; none above the number of processes
  abbrev pub crash : ℕ → Option ℕ
  crash p = get_or s.crashes (p - 1) None

  -- what the link between two processes does to letters
  abbrev pub link : (from to : ℕ) → Link
  link from to = get_or s.links ((from - 1) * s.processes + (to - 1)) no_link

  -- the outages of the link between two processes
  abbrev pub outages_on : (from to : ℕ) → List Outage
  outages_on from to = get_or s.outages ((from - 1) * s.processes + (to - 1)) []

  abbrev pub place_in : ℕ → Place
  place_in p = record { own = p; processes = s.processes; horizon = s.horizon }

  abbrev pub opening_algorithm : ℕ → AlgorithmState
  opening_algorithm p = elim s.algorithm [
    | kind.Idle ↦ Idle
    | kind.Strong ↦ Exchanging (place_in p) (opening_exchange s.processes p (unwrap_or (proposal p) 0))
    | kind.EventuallyStrong ↦ Coordinating (place_in p) (opening_coordinator (unwrap_or (proposal p) 0))
  ]

  -- the mind with which process p opens
  abbrev pub opening_mind : ℕ → Mind
  opening_mind p = record {
    lower = record {
      place = place_in p;
      detector = opening_detector s.detector;
      reduction = option_map opening_reduction s.share;
    };
    algorithm = opening_algorithm p;
  }

-- the tick is one of the outage: its end isn't
abbrev pub covers : (tick : ℕ) → Outage → Bool
covers tick o = nat_le o.begin tick && nat_lt tick o.until
