-- The window machine: workers share the processes for one window, each step the atomic act of one of them.
use Rattle.std.specs.{Prelude.{◌≡◌, ◌↔◌, ℕ, ◌+◌, ◌≤◌, ◌<◌, min, Bool, not, if◌then◌else◌, List, [], ◌∷◌, ◌++◌, filter, nat_lt, nat_eq, ◌⊎◌}, List.{list_any}}
use Rattle.std.specs.FinMap as events
use Rattle.{process_api.specs.{Order.{EntryRecord}, Place.{change}, declared.{key.Key.{Key}, message.StepInput.{StepInput}}}, pending_events.specs.Pending.{IsEmpty}}
use Rattle.trace_laws.specs.{Setting.{Setting, IsProcess}, Step.{Event, Events, Process, Made, step}, World.{World, Has, IsLeast, NoneBelow, joined, Pair, IsWorld, entries}, History.{IsIn}}

-- a process waits for a worker, is held by one, or is done for this window
pub data Status : Type 0 where
  Waiting : Status
  Held : (worker : ℕ) → Status
  Done : Status

-- where a window stands, whatever code runs it
pub record StageRecord (Mind : Type 0) : Type 0 where
  -- the first tick of the window
  pub start : ℕ
  -- of each process: its mind and link counts, its pending events, its part of this window's trace, and where it is
  pub process : ℕ → Process Mind
  pub own : ℕ → Events
  pub part : ℕ → List EntryRecord
  pub status : ℕ → Status
  -- of each worker: letters that it has not posted yet
  pub tray : ℕ → Events
  -- of each receiver: letters that were posted to it
  pub mailbox : ℕ → Events

-- whether a set has an event below a tick
abbrev pub has_below : ℕ → Events → Bool
has_below end set = list_any (λ e. nat_lt e.0.tick end) (events.entries set)

-- at the opening of a window the processes with an event below its end wait, and the others are done
abbrev pub first_status : (end : ℕ) → Events → Status
first_status end own = if has_below end own then Waiting else Done

-- the events of a list that process p receives, and those that others receive
abbrev pub for_self : ℕ → List Event → List Event
for_self p es = filter (λ e. nat_eq e.0.receiver p) es

abbrev pub for_others : ℕ → List Event → List Event
for_others p es = filter (λ e. not (nat_eq e.0.receiver p)) es

module _ {Mind : Type 0} where
  -- worker a holds no process with an event below the end
  abbrev pub HoldsNoWork : (end : ℕ) → StageRecord Mind → (a : ℕ) → Type 0
  HoldsNoWork end g a = (p : ℕ) → g.status p ≡ Held a → NoneBelow end (g.own p)

  abbrev pub with_status : StageRecord Mind → (p : ℕ) → Status → StageRecord Mind
  with_status g p status = record g { status = change g.status p status }

  -- a letter goes from a tray to its receiver's mailbox
  abbrev pub posted : StageRecord Mind → (a : ℕ) → Key → StepInput → StageRecord Mind
  posted g a key input = record g {
    tray = change g.tray a (events.remove (g.tray a) key);
    mailbox = change g.mailbox key.receiver (events.insert (g.mailbox key.receiver) key input);
  }

  -- each mailbox moves into its receiver's set
  abbrev pub gathered : StageRecord Mind → ℕ → Events
  gathered g p = joined (g.own p) (events.entries (g.mailbox p))

-- what may happen next: worker a takes process p, runs an event of the process that it holds, posts a letter, or gives
-- a process back; or the window closes and the next one opens
pub data Act : Type 0 where
  Take : (a p : ℕ) → Act
  Turn : (a : ℕ) → Act
  Post : (a : ℕ) (key : Key) (input : StepInput) → Act
  Return : (a p : ℕ) → Act
  Close : (next : ℕ) → Act

module _ {Mind : Type 0} (S : Setting Mind) where
  -- the end of the window of this length that starts at a tick: the window is cut at the horizon
  abbrev pub end_of : (window start : ℕ) → ℕ
  end_of window start = min (start + window) S.horizon

  -- process p takes an event in the hands of worker a: events for itself join its set, letters to others go to the tray
  abbrev pub turned_by : StageRecord Mind → (a p : ℕ) → Key → Made S → StageRecord Mind
  turned_by g a p key made = record g {
    process = change g.process p made.process;
    own = change g.own p (joined (events.remove (g.own p) key) (for_self p made.added));
    part = change g.part p (g.part p ++ made.entry ∷ []);
    tray = change g.tray a (joined (g.tray a) (for_others p made.added));
  }

  abbrev pub turned : StageRecord Mind → (a p : ℕ) → Key → StepInput → StageRecord Mind
  turned g a p key input = turned_by g a p key (step S (g.process p) key input)

  -- the next window opens
  abbrev pub closed : (window next : ℕ) → StageRecord Mind → StageRecord Mind
  closed window next g = record {
    start = next;
    process = g.process;
    own = gathered g;
    part = λ p. [];
    status = λ p. first_status (end_of window next) (gathered g p);
    tray = g.tray;
    mailbox = λ r. events.empty;
  }

  -- In a window of this length that ends at this tick, an act may lead from one stage to another. The next window opens
  -- at a tick from the end to the horizon below which no event is pending
  abbrev pub Moves : (window end : ℕ) → StageRecord Mind → Act → StageRecord Mind → Type 0
  Moves window end g (Take a p) h =
      (g.status p ≡ Waiting) × IsEmpty (g.tray a) × HoldsNoWork end g a × (h ≡ with_status g p (Held a))
  Moves window end g (Turn a) h = (p : ℕ) × (key : Key) × (input : StepInput) × (g.status p ≡ Held a)
      × IsLeast (g.own p) key input × (key.tick < end) × (h ≡ turned g a p key input)
  Moves window end g (Post a key input) h = Has (g.tray a) key input × (h ≡ posted g a key input)
  Moves window end g (Return a p) h =
      (g.status p ≡ Held a) × NoneBelow end (g.own p) × IsEmpty (g.tray a) × (h ≡ with_status g p Done)
  Moves window end g (Close next) h = ((p : ℕ) → IsProcess S p → g.status p ≡ Done) × (end ≤ next) × (next ≤ S.horizon)
      × ((p : ℕ) → NoneBelow next (g.own p) × NoneBelow next (g.mailbox p)) × (h ≡ closed window next g)

  -- A run of a window: allowed acts, whose one Close is the last; the Close finds one stage, and leaves the other
  abbrev pub IsRun : (window end : ℕ) → StageRecord Mind → List Act → (found left : StageRecord Mind) → Type 0
  IsRun window end g [] found left = ⊥
  IsRun window end g (Close next ∷ acts) found left = (acts ≡ []) × (found ≡ g) × Moves window end g (Close next) left
  IsRun window end g (act ∷ acts) found left =
      (mid : StageRecord Mind) × Moves window end g act mid × IsRun window end mid acts found left

  -- a stage at the opening of its window has the processes of a world, and each its own of the world's pending events
  pub record StandsFor (window : ℕ) (g : StageRecord Mind) (w : World Mind) : Type 0 where
    pub process : (p : ℕ) → IsProcess S p → g.process p ≡ w.process p
    pub own : (p : ℕ) (key : Key) (input : StepInput)
        → Has (g.own p) key input ↔ (Has w.pending key input × (key.receiver ≡ p))
    pub late : (key : Key) (input : StepInput) → Has w.pending key input → g.start ≤ key.tick
    pub part : (p : ℕ) → g.part p ≡ []
    pub status : (p : ℕ) → g.status p ≡ first_status (end_of window g.start) (g.own p)
    pub tray : (a : ℕ) → IsEmpty (g.tray a)
    pub mailbox : (r : ℕ) → IsEmpty (g.mailbox r)

-- what each process does in a window by itself, and what the processes of a stage make together
module _ {Mind : Type 0} (S : Setting Mind) where
  -- Process p takes its pending events below the end, the least first. Events for itself join its set, letters to
  -- others are posted, in order
  abbrev pub BerthRun : (p end : ℕ) → (before : Process Mind) → (own : Events) → List Pair
      → (after : Process Mind) → (rest : Events) → (letters : List Event) → Type 0
  BerthRun p end before own [] after rest letters = NoneBelow end own × (after ≡ before) × (rest ≡ own) × (letters ≡ [])
  BerthRun p end before own (s ∷ history) after rest letters =
      IsLeast own s.0.key s.1 × (s.0.key.tick < end) × (s.0 ≡ (step S before s.0.key s.1).entry)
      × (more : List Event) × (letters ≡ for_others p (step S before s.0.key s.1).added ++ more)
      × BerthRun p end (step S before s.0.key s.1).process
      (joined (events.remove own s.0.key) (for_self p (step S before s.0.key s.1).added)) history after rest more

  -- a letter to p is among those that the processes posted
  abbrev pub IsPosted : (letters : ℕ → List Event) → (p : ℕ) → Key → StepInput → Type 0
  IsPosted letters p key input = (q : ℕ) × IsProcess S q × IsIn (key, input) (letters q) × (key.receiver ≡ p)

  -- From stage g each process ran its window by itself, of these pairs, with these events left and these letters
  -- posted. Stage h is what then opens: each set has what is left and what was posted to it
  pub record AreBerths (window : ℕ) (g : StageRecord Mind) (history : ℕ → List Pair) (rest : ℕ → Events)
      (letters : ℕ → List Event) (h : StageRecord Mind) : Type 0 where
    pub berth : (p : ℕ) → IsProcess S p
        → BerthRun p (end_of S window g.start) (g.process p) (g.own p) (history p) (h.process p) (rest p) (letters p)
    pub own : (p : ℕ) → IsProcess S p → (key : Key) (input : StepInput)
        → Has (h.own p) key input ↔ (Has (rest p) key input ⊎ IsPosted letters p key input)
    pub others : (p : ℕ) → ¬ (IsProcess S p) → IsEmpty (h.own p)
    pub from_end : end_of S window g.start ≤ h.start
    pub to_horizon : h.start ≤ S.horizon
    pub late : (p : ℕ) → NoneBelow h.start (h.own p)
    pub part : (p : ℕ) → h.part p ≡ []
    pub status : (p : ℕ) → h.status p ≡ first_status (end_of S window h.start) (h.own p)
    pub tray : (a : ℕ) → IsEmpty (h.tray a)
    pub mailbox : (r : ℕ) → IsEmpty (h.mailbox r)

  -- two stages are the same, but for processes other than 1 to n
  pub record IsSameStage (g h : StageRecord Mind) : Type 0 where
    pub start : g.start ≡ h.start
    pub process : (p : ℕ) → IsProcess S p → g.process p ≡ h.process p
    pub own : (p : ℕ) → g.own p ≡ h.own p
    pub part : (p : ℕ) → g.part p ≡ h.part p
    pub status : (p : ℕ) → g.status p ≡ h.status p
    pub tray : (a : ℕ) → g.tray a ≡ h.tray a
    pub mailbox : (r : ℕ) → g.mailbox r ≡ h.mailbox r

  -- what the processes make of a window, each by itself, some run of the window machine makes
  abbrev pub LawBerths : (window : ℕ) → Type 0
  LawBerths window = (w : World Mind) → IsWorld S w → (g : StageRecord Mind) → StandsFor S window g w
      → (history : ℕ → List Pair) (rest : ℕ → Events) (letters : ℕ → List Event) (h : StageRecord Mind)
      → AreBerths window g history rest letters h
      → (acts : List Act) × (found : StageRecord Mind) × (left : StageRecord Mind)
      × IsRun S window (end_of S window g.start) g acts found left
      × IsSameStage left h × ((p : ℕ) → IsProcess S p → found.part p ≡ entries (history p))
