-- Closed histories: what a run leaves behind, said without an event list.
use Rattle.std.specs.{Prelude.{◌≡◌, ◌⊎◌, ◌↔◌, ℕ, ◌<◌, List, [], ◌∷◌, filter, nat_eq, IsTrue}, declared.cmp.Ordering.TheVariants.{Less}}
use Rattle.process_api.specs.{Order.{EntryRecord, is_rising, key_cmp}, declared.{key.Key.{Key}, message.StepInput.{StepInput, TheVariants.{Start}}}}
use Rattle.trace_laws.specs.{Setting.{Setting, IsProcess}, Step.{Process, step}, World.{World, Has, entries, start_of, opening_process}}
pub use Rattle.trace_laws.specs.World.{Pair}

-- x is one of xs
abbrev pub IsIn : {X : Type 0} → X → List X → Type 0
IsIn x [] = ⊥
IsIn x (y ∷ ys) = (x ≡ y) ⊎ IsIn x ys

-- just one
abbrev pub IsOnly : {X : Type 0} → (X → Type 0) → X → Type 0
IsOnly {X} P x = P x × ((y : X) → P y → y ≡ x)

-- the pairs of process p, in order
abbrev pub pairs_of : ℕ → List Pair → List Pair
pairs_of p history = filter (λ s. nat_eq s.0.key.receiver p) history

-- an event is taken in a history
abbrev pub IsTaken : Key → StepInput → List Pair → Type 0
IsTaken key input history = (entry : EntryRecord) × (entry.key ≡ key) × IsIn (entry, input) history

module _ {Mind : Type 0} (S : Setting Mind) where
  -- the pairs are what the steps of a process make of their keys and inputs, one after the other
  abbrev pub AreSteps : Process Mind → List Pair → Type 0
  AreSteps before [] = Unit {0}
  AreSteps before (s ∷ rest) =
      (s.0 ≡ (step S before s.0.key s.1).entry) × AreSteps (step S before s.0.key s.1).process rest

  -- an event is added by one of these steps
  abbrev pub IsAdded : Key → StepInput → Process Mind → List Pair → Type 0
  IsAdded key input before [] = ⊥
  IsAdded key input before (s ∷ rest) =
      IsIn (key, input) (step S before s.0.key s.1).added ⊎ IsAdded key input (step S before s.0.key s.1).process rest

  -- an event is added by a step of some process
  abbrev pub IsAddedBySome : (ℕ → Process Mind) → Key → StepInput → List Pair → Type 0
  IsAddedBySome process key input history = (p : ℕ) × IsProcess S p × IsAdded key input (process p) (pairs_of p history)

  -- A closed history from processes and the events that are given at first, up to tick end: its keys rise strictly,
  -- the pairs of each process are that process's steps, and just the events below end that are given, or that these
  -- steps add, are taken
  pub record IsClosedFrom (process : ℕ → Process Mind) (IsGiven : Key → StepInput → Type 0) (end : ℕ)
      (history : List Pair) : Type 0 where
    pub rising : IsTrue (is_rising (entries history))
    pub steps : (p : ℕ) → IsProcess S p → AreSteps (process p) (pairs_of p history)
    pub exact : (key : Key) (input : StepInput)
        → IsTaken key input history ↔ ((key.tick < end) × (IsGiven key input ⊎ IsAddedBySome process key input history))

  -- the start of a process
  abbrev pub IsStart : Key → StepInput → Type 0
  IsStart key input = IsProcess S key.receiver × (key ≡ start_of key.receiver) × (input ≡ Start)

  -- a closed history of the whole scenario: of the starts, up to the horizon
  abbrev pub IsClosed : List Pair → Type 0
  IsClosed history = IsClosedFrom (opening_process S) IsStart S.horizon history

  -- a closed history between a world and a tick
  abbrev pub IsClosedBetween : World Mind → ℕ → List Pair → Type 0
  IsClosedBetween w end history = IsClosedFrom w.process (Has w.pending) end history

  -- the step of pair c is the one that adds an event
  abbrev pub Adds : Process Mind → (c : Pair) → Key → StepInput → List Pair → Type 0
  Adds before c key input [] = ⊥
  Adds before c key input (s ∷ rest) = ((c ≡ s) × IsIn (key, input) (step S before s.0.key s.1).added)
      ⊎ Adds (step S before s.0.key s.1).process c key input rest

  -- c is the cause of an event in a history from the opening: its step adds it
  abbrev pub IsCauseOf : List Pair → (c : Pair) → Key → StepInput → Type 0
  IsCauseOf history c key input = IsProcess S c.0.key.receiver
      × Adds (opening_process S c.0.key.receiver) c key input (pairs_of c.0.key.receiver history)

-- cause and effect in a trace
module _ {Mind : Type 0} (S : Setting Mind) where
  -- the trace with its inputs: the one closed history that has these entries
  abbrev pub IsHistoryOf : List EntryRecord → List Pair → Type 0
  IsHistoryOf trace history = IsOnly (λ h. IsClosed S h × (entries h ≡ trace)) history

  -- the step of entry c adds this event
  abbrev pub IsEffect : List Pair → (c : EntryRecord) → Key → StepInput → Type 0
  IsEffect history c key input = (took : StepInput) × IsCauseOf S history (c, took) key input

  -- the step of entry c adds an event with this key
  abbrev pub Causes : List Pair → (c : EntryRecord) → Key → Type 0
  Causes history c key = (input : StepInput) × IsEffect history c key input

  -- the key of the start of a process
  abbrev pub IsStartKey : Key → Type 0
  IsStartKey key = IsProcess S key.receiver × (key ≡ start_of key.receiver)

  -- every entry whose key is no start's has just one cause, an earlier entry
  abbrev pub HasCauses : List EntryRecord → Type 0
  HasCauses trace = (history : List Pair) × IsHistoryOf trace history
      × ((e : EntryRecord) → IsIn e trace → ¬ (IsStartKey e.key)
      → (c : EntryRecord) × IsIn c trace × (key_cmp c.key e.key ≡ Less) × IsOnly (λ d. Causes history d e.key) c)

  -- every event that a step adds below the horizon is the key of just one entry, which takes the event's input
  abbrev pub TakesOnce : List EntryRecord → Type 0
  TakesOnce trace = (history : List Pair) × IsHistoryOf trace history
      × ((c : EntryRecord) (key : Key) (input : StepInput) → IsEffect history c key input
      → (e : EntryRecord) × IsIn (e, input) history × IsOnly (λ f. IsIn f trace × (f.key ≡ key)) e)
