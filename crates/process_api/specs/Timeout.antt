-- The time-out detector of Chandra and Toueg (Journal of the ACM 43(2), 1996), whose bounds grow after mistakes: what
-- one input makes of it, and what it does.
use Rattle.std.specs.Prelude.{ℕ, ◌+◌, ◌-◌, min, max, Bool, not, ◌&&◌, nat_le, if◌then◌else◌, List, [], ◌∷◌, ◌++◌, map, filter}
use Rattle.std.specs.FinSet as set
use Rattle.process_api.specs.{Place.{numbers_to, change, Place, is_watched}, Sets.{Processes, insert_all}, Answer.{Answer, still, to_others}}
use Rattle.process_api.specs.declared.{action.Action.{Action}, message.StepInput.{StepInput}, numbers.TimeoutNumbers.{TimeoutNumbers}}
use Rattle.process_api.specs.declared.action.Action.TheVariants as action
use Rattle.process_api.specs.declared.action.Note.TheVariants as note
use Rattle.process_api.specs.declared.message.Payload.TheVariants as payload
use Rattle.process_api.specs.declared.message.StepInput.TheVariants as input
use Rattle.process_api.specs.declared.message.Tag.TheVariants as tag

pub record TimeoutState : Type 0 where
  -- the tick at which a process was heard of last
  pub last_heard : ℕ → ℕ
  -- with how many ticks of silence it becomes suspected
  pub bound : ℕ → ℕ
  pub suspects : Processes

abbrev pub opening_timeout : TimeoutNumbers → TimeoutState
opening_timeout numbers = record { last_heard = λ q. 0; bound = λ q. numbers.timeout; suspects = set.empty }

module _ (place : Place) (numbers : TimeoutNumbers) where
  abbrev pub watches : ℕ → Bool
  watches q = is_watched place.own place.processes numbers.watch q

  abbrev pub alive_to_others : List Action
  alive_to_others = to_others place.processes place.own payload.Alive

  abbrev pub next_beat : List Action
  next_beat = action.Wake numbers.period tag.Beat ∷ []

  abbrev pub next_check : List Action
  next_check = action.Wake numbers.check tag.Check ∷ []

  -- q is overdue: watched, not yet suspected, and silent for its bound or longer; a difference below 0 counts as 0
  abbrev pub is_overdue : TimeoutState → ℕ → ℕ → Bool
  is_overdue s now q = watches q && (not (set.contains s.suspects q) && nat_le (s.bound q) (now - s.last_heard q))

  -- who is overdue, in rising order
  abbrev pub overdue : TimeoutState → ℕ → List ℕ
  overdue s now = filter (is_overdue s now) (numbers_to place.processes)

  -- a check: all that are overdue become suspected
  abbrev pub checked : TimeoutState → ℕ → Answer TimeoutState
  checked s now = record {
    state = record s { suspects = insert_all s.suspects (overdue s now) };
    actions = map (λ q. action.Note (note.Suspect 1 q)) (overdue s now) ++ next_check;
  }

  -- q is heard of
  abbrev pub noticed : TimeoutState → ℕ → ℕ → TimeoutState
  noticed s now q = record s { last_heard = change s.last_heard q now }

  -- q is heard of, though it was suspected: it is trusted again, and its bound grows, but not above the horizon
  abbrev pub trusted_again : TimeoutState → ℕ → ℕ → Answer TimeoutState
  trusted_again s now q = record {
    state = record (noticed s now q) {
      bound = change s.bound q (max (s.bound q) (min (s.bound q + numbers.grow) place.horizon));
      suspects = set.remove s.suspects q;
    };
    actions = action.Note (note.Trust 1 q) ∷ [];
  }

  abbrev pub heard : TimeoutState → ℕ → ℕ → Answer TimeoutState
  heard s now q = if set.contains s.suspects q then trusted_again s now q else still (noticed s now q)

  abbrev pub step_timeout : TimeoutState → ℕ → StepInput → Answer TimeoutState
  step_timeout s now input.Start = record { state = s; actions = alive_to_others ++ (next_beat ++ next_check) }
  step_timeout s now (input.Wake tag.Beat) = record { state = s; actions = alive_to_others ++ next_beat }
  step_timeout s now (input.Wake tag.Check) = checked s now
  step_timeout s now (input.Letter sender payload.Alive) = if watches sender then heard s now sender else still s
  step_timeout s now x = still s
