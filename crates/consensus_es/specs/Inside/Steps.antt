-- What the definition makes of a process's progress: what it answers, and which letters count.
use Rattle.std.specs.Prelude.{ℕ, Bool, not, ◌&&◌, nat_eq, Option}
use Rattle.std.specs.FinSet as set
use Rattle.process_api.specs.{Answer.{Answer, still}, Coordinator.{Coordinator, coordinator, is_own}, Sets.{Processes}, Place.{Place}, Mind.{AlgorithmState, Coordinating}}
use Rattle.process_api.specs.declared.{membership.Membership.{Membership}, message.{Payload.{Payload}, StepInput.{StepInput}}}
use Rattle.process_api.specs.Coordinator as definition
use Rattle.consensus_es.specs.{State.{state_of}, declared.{progress.Progress.{Progress}, consensus.EsConsensus.{EsConsensus}}}

module _ (m : Membership) (s : Progress) where
  abbrev pub begun : StepInput → Answer Coordinator
  begun input = definition.begin m.processes m.own input (state_of s)

  abbrev pub entered : ℕ → Answer Coordinator
  entered round = definition.enter m.processes m.own round (state_of s)

  abbrev pub left : Answer Coordinator
  left = definition.leave m.processes m.own (state_of s)

  abbrev pub replied : Bool → Answer Coordinator
  replied ack = definition.reply m.processes m.own ack (state_of s)

  abbrev pub settled : Processes → Answer Coordinator
  settled suspects = definition.settle m.processes m.own (set.contains suspects) (still (state_of s))

  abbrev pub wait_ended : Processes → Option (Answer Coordinator)
  wait_ended suspects = definition.end_wait m.processes m.own (set.contains suspects) (state_of s)

  abbrev pub collected : Option (Answer Coordinator)
  collected = definition.collect m.processes m.own (state_of s)

  abbrev pub awaited : Processes → Option (Answer Coordinator)
  awaited suspects = definition.await m.processes m.own (set.contains suspects) (state_of s)

  abbrev pub tallied : Option (Answer Coordinator)
  tallied = definition.tally m.processes m.own (state_of s)

  abbrev pub received : ℕ → Payload → Answer Coordinator
  received sender what = definition.receive m.processes m.own sender what (state_of s)

  abbrev pub delivered : ℕ → ℕ → Answer Coordinator
  delivered round value = definition.deliver m.processes m.own round value (state_of s)

  abbrev pub is_timely : ℕ → ℕ → Bool
  is_timely = definition.is_timely m.processes m.own (state_of s)

  -- an estimate or a reply of a round counts: it is timely, and goes to the round's coordinator
  abbrev pub is_for_coordinator : ℕ → ℕ → Bool
  is_for_coordinator sender round = is_timely sender round && is_own m.processes m.own round

  -- a proposal of a round counts: it is timely, by the round's coordinator, and not early
  abbrev pub is_by_coordinator : ℕ → ℕ → Bool
  is_by_coordinator sender round = is_timely sender round && (nat_eq sender (coordinator m.processes round)
      && not (definition.is_early m.processes m.own (state_of s) sender))

-- the machine as plain data
abbrev pub place_of : EsConsensus → Place
place_of c = record { own = c.membership.own; processes = c.membership.processes; horizon = c.horizon }

abbrev pub algorithm_of : EsConsensus → AlgorithmState
algorithm_of c = Coordinating (place_of c) (state_of c.progress)
