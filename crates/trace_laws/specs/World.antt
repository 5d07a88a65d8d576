-- The single event list.
use Rattle.std.specs.{Prelude.{◌≡◌, ◌≢◌, ℕ, ◌≤◌, ◌<◌, zero, suc, List, [], ◌∷◌, map, IsTrue, Some, ◌++◌, refl}, declared.cmp.Ordering.TheVariants.{Less}, Coded.{Coded, code_by, coded×, coded_ℕ}, FinMap.Entries.{put}}
use Rattle.std.specs.FinMap as events
use Rattle.process_api.specs.{Order.{EntryRecord, key_cmp}, Place.{change}, declared.{key.Key.{Key}, message.StepInput.{StepInput, TheVariants.{Start}}}}
use Rattle.trace_laws.specs.{Setting.{Setting, IsProcess}, Step.{Event, Events, Process, step, Made}}

-- the processes, and the events that are pending
pub record World (Mind : Type 0) : Type 0 where
  pub process : ℕ → Process Mind
  pub pending : Events

-- an event is in a set
abbrev pub Has : Events → Key → StepInput → Type 0
Has set key input = events.get set key ≡ Some input

-- an event is in a set, and none is before it
pub record IsLeast (set : Events) (key : Key) (input : StepInput) : Type 0 where
  pub there : Has set key input
  pub none_before : (other : Key) (its : StepInput) → Has set other its → key_cmp other key ≢ Less

-- no event is below a tick
abbrev pub NoneBelow : ℕ → Events → Type 0
NoneBelow end set = (key : Key) (input : StepInput) → Has set key input → end ≤ key.tick

-- the set with further events
abbrev pub joined : Events → List Event → Events
joined set [] = set
joined set (e ∷ es) = joined (events.insert set e.0 e.1) es

-- one step of a history: its entry, and what the process took
abbrev pub Pair : Type 0
Pair = EntryRecord × StepInput

abbrev pub entries : List Pair → List EntryRecord
entries history = map (λ s. s.0) history

-- the key of a process's start
abbrev pub start_of : ℕ → Key
start_of p = record { tick = 0; receiver = p; sender = p; number = 0 }

-- the starts of processes 1 to n
abbrev pub starts : ℕ → Events
starts zero = events.empty
starts (suc n) = events.insert (starts n) (start_of (suc n)) Start

-- a process that put nothing on any link
abbrev pub opened : {Mind : Type 0} → Mind → Process Mind
opened mind = record { mind = mind; counts = λ _. 0 }

module _ {Mind : Type 0} (S : Setting Mind) where
  abbrev pub opening_process : ℕ → Process Mind
  opening_process p = opened (S.opening p)

  abbrev pub opening : World Mind
  opening = record { process = opening_process; pending = starts S.processes }

  -- each process has its own mind; events are below the horizon, for processes, none numbered above its link's count
  pub record IsWorld (w : World Mind) : Type 0 where
    pub minds : (p : ℕ) → IsProcess S p → IsTrue (S.is_mind p (w.process p).mind)
    pub below : (key : Key) (input : StepInput) → Has w.pending key input → key.tick < S.horizon
    pub received : (key : Key) (input : StepInput) → Has w.pending key input → IsProcess S key.receiver
    pub counted : (key : Key) (input : StepInput)
        → Has w.pending key input → key.number ≤ (w.process key.sender).counts key.receiver

  -- what the step of an event makes
  abbrev pub made : World Mind → Key → StepInput → Made S
  made w key input = step S (w.process key.receiver) key input

  -- the world after an event was taken
  abbrev pub taken : World Mind → Key → StepInput → World Mind
  taken w key input = record {
    process = change w.process key.receiver (made w key input).process;
    pending = joined (events.remove w.pending key) (made w key input).added;
  }

  -- from old, the list takes the least pending event again and again, until none is below tick end. It makes these
  -- entries of these inputs, and leaves new
  abbrev pub Run : (end : ℕ) → (old : World Mind) → List Pair → (new : World Mind) → Type 0
  Run end old [] new = NoneBelow end old.pending × (new ≡ old)
  Run end old (s ∷ rest) new =
      IsLeast old.pending s.0.key s.1 × (s.0.key.tick < end) × (s.0 ≡ (made old s.0.key s.1).entry)
      × Run end (taken old s.0.key s.1) rest new

  -- these are the entries of the whole list, from the opening up to the horizon
  abbrev pub IsTrace : List EntryRecord → Type 0
  IsTrace trace =
      (history : List Pair) × (last : World Mind) × Run S.horizon opening history last × (trace ≡ entries history)

-- worlds that the list comes by
module _ {M : Type 0} (S : Setting M) where
  -- the list comes by this world, after these entries
  pub record IsReached (w : World M) (trace : List EntryRecord) : Type 0 where
    pub history : List Pair
    pub trace_is : trace ≡ entries history
    pub goes_on : (rest : List Pair) (last : World M)
        → Run S S.horizon w rest last → Run S S.horizon (opening S) (history ++ rest) last
    pub comes_by : (all : List Pair) (last : World M)
        → Run S S.horizon (opening S) all last
        → (rest : List Pair) × (all ≡ history ++ rest) × Run S S.horizon w rest last

-- a key is stored as its fields
abbrev pub key_code : Coded Key
key_code = code_by (ℕ × (ℕ × (ℕ × ℕ))) (coded× coded_ℕ (coded× coded_ℕ (coded× coded_ℕ coded_ℕ)))
    (λ k. (k.tick, (k.receiver, (k.sender, k.number))))
    (λ p. record { tick = p.0; receiver = p.1.0; sender = p.1.1.0; number = p.1.1.1 }) (λ _. refl)

-- ---- a plain, slow program for small scenarios, which computes

-- further events, each put in its place
abbrev pub puts : List Event → List Event → List Event
puts es [] = es
puts es (a ∷ more) = puts (put key_cmp a.0 a.1 es) more

-- the starts of processes 1 to n
abbrev pub plain_starts : ℕ → List Event
plain_starts zero = []
plain_starts (suc n) = put key_cmp (start_of (suc n)) Start (plain_starts n)

module _ {Mind : Type 0} (S : Setting Mind) where
  -- the steps of at most so many events, and what is pending then
  abbrev pub plain_steps : ℕ → (ℕ → Process Mind) → List Event → List Pair
  plain_steps zero process es = []
  plain_steps (suc n) process [] = []
  plain_steps (suc n) process (e ∷ es) = ((step S (process e.0.receiver) e.0 e.1).entry, e.1)
      ∷ plain_steps n (change process e.0.receiver (step S (process e.0.receiver) e.0 e.1).process)
      (puts es (step S (process e.0.receiver) e.0 e.1).added)

  abbrev pub plain_left : ℕ → (ℕ → Process Mind) → List Event → List Event
  plain_left zero process es = es
  plain_left (suc n) process [] = []
  plain_left (suc n) process (e ∷ es) =
      plain_left n (change process e.0.receiver (step S (process e.0.receiver) e.0 e.1).process)
      (puts es (step S (process e.0.receiver) e.0 e.1).added)
