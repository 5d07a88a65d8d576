-- The detector with freshness points of Chen, Toueg and Aguilera (IEEE Transactions on Computers 51(5), 2002): what one
-- input makes of it, and what it does. Heartbeats and points are numbered from 1. Heartbeat i is sent at tick i * eta,
-- and point i lies delta ticks later: from there to the next point only heartbeat i and later ones are fresh. No step
-- asks for the tick, since both come by wakes.
use Rattle.std.specs.Prelude.{ℕ, ◌+◌, min, Bool, false, not, ◌&&◌, ◌||◌, nat_le, if◌then◌else◌, List, [], ◌∷◌, ◌++◌, map, filter}
use Rattle.std.specs.FinSet as set
use Rattle.process_api.specs.{Place.{numbers_to, change, Place, is_watched}, Sets.{Processes, insert_all, changes}, Answer.{Answer, still, to_others}}
use Rattle.process_api.specs.declared.{action.Action.{Action}, message.StepInput.{StepInput}, numbers.FreshnessNumbers.{FreshnessNumbers}}
use Rattle.process_api.specs.declared.action.Action.TheVariants as action
use Rattle.process_api.specs.declared.message.Payload.TheVariants as payload
use Rattle.process_api.specs.declared.message.StepInput.TheVariants as input
use Rattle.process_api.specs.declared.message.Tag.TheVariants as tag

pub record FreshnessState : Type 0 where
  -- the last heartbeat that was sent, and the last point that was reached; 0 before the first
  pub sent : ℕ
  pub reached : ℕ
  -- whether heartbeat i of a process, or a later one, came
  pub came : (q i : ℕ) → Bool

abbrev pub opening_freshness : FreshnessState
opening_freshness = record { sent = 0; reached = 0; came = λ q i. false }

-- the next heartbeat or point: they are counted up to 1,000,000,000,000, and stay there
abbrev pub next : ℕ → ℕ
next i = min (i + 1) 1_000_000_000_000

module _ (place : Place) (numbers : FreshnessNumbers) where
  abbrev pub watches : ℕ → Bool
  watches q = is_watched place.own place.processes numbers.watch q

  -- q is watched, a point was reached, and neither the heartbeat of the last one nor a later one came from q
  abbrev pub is_stale : FreshnessState → ℕ → Bool
  is_stale s q = watches q && (nat_le 1 s.reached && not (s.came q s.reached))

  -- those are the suspects: nobody before the first point
  abbrev pub suspected : FreshnessState → Processes
  suspected s = insert_all set.empty (filter (is_stale s) (numbers_to place.processes))

  -- what is noted as one state gives way to another
  abbrev pub noted : FreshnessState → FreshnessState → List Action
  noted before after = map action.Note (changes 1 place.processes (suspected before) (suspected after))

  abbrev pub heartbeat_to_others : ℕ → List Action
  heartbeat_to_others i = to_others place.processes place.own (payload.Heartbeat i)

  abbrev pub next_beat : List Action
  next_beat = action.Wake numbers.eta tag.Beat ∷ []

  abbrev pub next_check : List Action
  next_check = action.Wake numbers.eta tag.Check ∷ []

  abbrev pub first_wakes : List Action
  first_wakes = action.Wake numbers.eta tag.Beat ∷ action.Wake (numbers.eta + numbers.delta) tag.Check ∷ []

  -- the next point is reached
  abbrev pub checked : FreshnessState → FreshnessState
  checked s = record s { reached = next s.reached }

  -- heartbeat j came from q
  abbrev pub heard : FreshnessState → (q j : ℕ) → FreshnessState
  heard s q j = record s { came = change s.came q (λ i. nat_le i j || s.came q i) }

  abbrev pub step_freshness : FreshnessState → StepInput → Answer FreshnessState
  step_freshness s input.Start = record { state = s; actions = first_wakes }
  step_freshness s (input.Wake tag.Beat) = record {
    state = record s { sent = next s.sent };
    actions = heartbeat_to_others (next s.sent) ++ next_beat;
  }
  step_freshness s (input.Wake tag.Check) = record { state = checked s; actions = noted s (checked s) ++ next_check }
  step_freshness s (input.Letter sender (payload.Heartbeat j)) =
      if watches sender then record { state = heard s sender j; actions = noted s (heard s sender j) } else still s
  step_freshness s x = still s
