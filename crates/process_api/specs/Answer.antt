-- What an input makes of a part of a process, and what the part does.
use Rattle.std.specs.Prelude.{ℕ, List, [], ◌++◌, map, Bool, true, false, Option, None, Some, ◌≤◌, nat_eq, ◌∷◌, if◌then◌else◌}
use Rattle.process_api.specs.{Place.{numbers_to, others}, Order.{EntryRecord}, declared.{action.{Action.{Action}, Note.{Note}}, message.Payload.{Payload}}}
use Rattle.process_api.specs.declared.action.Action.TheVariants as action
use Rattle.process_api.specs.declared.action.Note.TheVariants as note

-- the state after an input, and the actions
pub record Answer (State : Type 0) : Type 0 where
  pub state : State
  pub actions : List Action

-- nothing changes and nothing is done
abbrev pub still : {State : Type 0} → State → Answer State
still s = record { state = s; actions = [] }

-- an answer that comes after some actions
abbrev pub after : {State : Type 0} → List Action → Answer State → Answer State
after actions a = record { state = a.state; actions = actions ++ a.actions }

-- a letter to each of n processes, oneself included
abbrev pub to_all : ℕ → Payload → List Action
to_all n what = map (λ q. action.Send q what) (numbers_to n)

-- a letter to each of n processes but p
abbrev pub to_others : ℕ → ℕ → Payload → List Action
to_others n p what = map (λ q. action.Send q what) (others n p)

-- a follower that may be there is there to the end, or never
abbrev pub HasFollowedWhere : {F : Type 0} (followed : F → F → List EntryRecord → Type 0)
    → (first now : Option F) → List EntryRecord → Type 0
HasFollowedWhere followed None None told = Unit {0}
HasFollowedWhere followed (Some first) (Some now) told = followed first now told
HasFollowedWhere followed None (Some now) told = ⊥
HasFollowedWhere followed (Some first) None told = ⊥

-- it is there where it is asked for, and is as it has to be
abbrev pub IsWhere : {X : Type 0} (asked : Bool) (is : X → Type 0) → Option X → Type 0
IsWhere true is (Some x) = is x
IsWhere true is None = ⊥
IsWhere false is (Some x) = ⊥
IsWhere false is None = Unit {0}

-- receivers are among 1 to n, and pauses are at least 1
abbrev pub IsAllowed : ℕ → Action → Type 0
IsAllowed n (action.Send to payload) = (1 ≤ to) × (to ≤ n)
IsAllowed n (action.Wake pause tag) = 1 ≤ pause
IsAllowed n (action.Note noted) = Unit {0}

-- the note of a layer, if it is one
abbrev pub of_layer : ℕ → Note → List Note
of_layer layer (note.Suspect l q) = if nat_eq l layer then note.Suspect l q ∷ [] else []
of_layer layer (note.Trust l q) = if nat_eq l layer then note.Trust l q ∷ [] else []
of_layer layer (note.Round r) = []
of_layer layer (note.Decided v) = []
of_layer layer note.NoValue = []

-- the notes of a layer among actions, in order
abbrev pub notes_of_layer : ℕ → List Action → List Note
notes_of_layer layer [] = []
notes_of_layer layer (action.Send to payload ∷ later) = notes_of_layer layer later
notes_of_layer layer (action.Wake pause tag ∷ later) = notes_of_layer layer later
notes_of_layer layer (action.Note noted ∷ later) = of_layer layer noted ++ notes_of_layer layer later
