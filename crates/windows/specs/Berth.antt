-- A machine in its berth, and what it does in one window.
use Rattle.std.specs.Prelude.{◌≡◌, ℕ, ◌<◌, ◌+◌, ◌*◌, ◌++◌, List, [], ◌∷◌, length, map}
use Rattle.{process_api.specs.{Place.{most_step_actions}, Mind.{Mind}, declared.{key.Key.{Key}, message.{Letter.{Letter}, StepInput.{StepInput}}}}, scenario_record.specs.Record.{Record}}
use Rattle.{trace_laws.specs.{Setting.{setting_of}, Step.{Event, Events, Process}, World.{Pair, Has, entries}, Taken.{event_of}}, steps.specs.Seat.{process_of, own_of, IsSeated}, mailboxes.specs.Mailboxes.{SlipView, filed, slip_of}}
use Rattle.{window_laws.specs.Machine.{for_others, BerthRun}, windows.specs.declared.berth.{Berth.{Berth}, TheConstants.{MOST_IN_PART}}}

-- how many entries a berth's part of a window can have
abbrev pub most_in_part : ℕ
most_in_part = MOST_IN_PART

-- the lists of all receivers after further letters came into them, in this order
abbrev pub all_filed : List (List Letter) → List Letter → List (List Letter)
all_filed lists [] = lists
all_filed lists (x ∷ letters) = all_filed (filed lists x) letters

-- a slip after further letters were posted by it, in this order
abbrev pub with_letters : SlipView → List Letter → SlipView
with_letters slip letters = slip_of slip.mailboxes (all_filed slip.posted letters)

-- just the letters of these events to others than process p came into the lists of their receivers, in order
abbrev pub AreFiled : (p : ℕ) → List Event → (old new : List (List Letter)) → Type 0
AreFiled p es old new =
    (letters : List Letter) × (map event_of letters ≡ for_others p es) × (new ≡ all_filed old letters)

module _ {M : Type 0} (mind : M → Mind) (s : Record) where
  -- with an entry for each event of the process below the end, its part of the window has more than so many
  abbrev pub IsLong : (end left : ℕ) → Berth M → Type 0
  IsLong end left b = (history : List Pair) (after : Process Mind) (rest : Events) (letters : List Event)
      → BerthRun (setting_of s) (own_of mind b.seat) end (process_of mind b.seat) b.pending history after rest letters
      → left < length b.part.items + length history

  -- process p in its berth: it put at most so much on each link before the open window, and 4,096 letters and wakes for
  -- each entry of its part since, and its pending events are its own
  pub record IsBerth (p most : ℕ) (berth : Berth M) : Type 0 where
    pub seated : IsSeated mind s (most + most_step_actions * length berth.part.items) berth.seat
    pub is : own_of mind berth.seat ≡ p
    pub own : (key : Key) (input : StepInput) → Has berth.pending key input → key.receiver ≡ p

  -- a process of the scenario in its berth. The letters on its links before the window leave room for a part
  abbrev pub IsBerthOf : Berth M → Type 0
  IsBerthOf berth = (p : ℕ) × IsBerth p (most_step_actions * most_in_part) berth

  -- process p took its events below a tick, which joined its part of the window, and it posted these letters
  pub record RanTo (p end : ℕ) (old new : Berth M) (letters : List Letter) : Type 0 where
    pub history : List Pair
    pub run : BerthRun (setting_of s) p end (process_of mind old.seat) old.pending history
        (process_of mind new.seat) new.pending (map event_of letters)
    pub part : new.part.items ≡ old.part.items ++ entries history

  -- the process in the berth took its events below the end, and the letters that it posted are so
  abbrev pub HasRun : (end : ℕ) (old new : Berth M) → (List Letter → Type 0) → Type 0
  HasRun end old new Are = (p : ℕ) → own_of mind old.seat ≡ p
      → (letters : List Letter) × RanTo p end old new letters × Are letters
