-- The letters that a run puts on the links between different processes.
use Rattle.std.specs.Prelude.{◌≡◌, ℕ, ◌+◌, if◌then◌else◌, List, [], ◌∷◌, ◌++◌, nat_eq}
use Rattle.process_api.specs.declared.action.Action.TheVariants as action
use Rattle.{process_api.specs.declared.{action.Action.{Action}, key.Key.{Key}, message.{Payload.{Payload}, StepInput.{StepInput}}}, streams.specs.declared.fate.Fate.{Fate}, trace_laws.specs.{Taken.{HaveJoined}, Setting.{Setting, has_crashed}, Step.{Process, counted}, World.{World, Pair, Run, opening, taken}}}

-- a letter to another process: its key on its link, at the tick when it is sent, what it says, and its fate there
pub record Posted : Type 0 where
  pub key : Key
  pub payload : Payload
  pub fate : Fate

module _ {Mind : Type 0} (S : Setting Mind) where
  -- process p acts at tick now
  module _ (p now : ℕ) where
    -- the letter that an action puts on a link to another process, if any; its number is its link's count with it
    abbrev pub posting : (ℕ → ℕ) → Action → List Posted
    posting counts (action.Send to what) = if nat_eq to p
        then []
        else record {
          key = record { tick = now; receiver = to; sender = p; number = counts to + 1 };
          payload = what;
          fate = S.fate p to (counts to + 1) now;
        } ∷ []
    posting counts (action.Wake pause for) = []
    posting counts (action.Note note) = []

    -- the same of all actions of a step, in their order
    abbrev pub posted_by : (ℕ → ℕ) → List Action → List Posted
    posted_by counts [] = []
    posted_by counts (a ∷ actions) = posting counts a ++ posted_by (counted p counts a) actions

  -- the letters of a step. A crashed receiver does nothing
  abbrev pub posted_in : Process Mind → Key → StepInput → List Posted
  posted_in before key x = if has_crashed (S.crash key.receiver) key.tick
      then []
      else posted_by key.receiver key.tick before.counts (S.react before.mind key.tick x).actions

  -- the letters of a history that begins with a world, step by step
  abbrev pub posted_along : World Mind → List Pair → List Posted
  posted_along w [] = []
  posted_along w (s ∷ rest) =
      posted_in (w.process s.0.key.receiver) s.0.key s.1 ++ posted_along (taken S w s.0.key s.1) rest

  -- these are the letters of the whole list, from the opening up to the horizon
  abbrev pub ArePosted : List Posted → Type 0
  ArePosted letters = (history : List Pair) × (last : World Mind) × Run S S.horizon (opening S) history last
      × (letters ≡ posted_along (opening S) history)

  -- the letters of the whole list were heard, after what was heard before, in their order and nothing else. `heard`
  -- says what it means that letters made the one listener of the other
  abbrev pub WereHeard : {L : Type 0} (heard : L → List Posted → L → Type 0) (old new : L) → Type 0
  WereHeard heard old new = (letters : List Posted) × ArePosted letters × HaveJoined heard old new letters
