-- Where a run of the list stands.
use Rattle.std.specs.Prelude.{◌≡◌, ℕ, ◌-◌, List, ◌++◌, Some, All, map, slice_get, slice_set}
use Rattle.{process_api.specs.{Order.{EntryRecord}, Mind.{Mind}, declared.key.Key.{Key}}, scenario_record.specs.Record.{Record}}
use Rattle.trace_laws.specs.{Setting.{Setting, IsProcess, setting_of}, Step.{Event, Events, Process, Made, step}, World.{IsReached, World, Pair, Run, IsWorld, opening, joined}}
use Rattle.{steps.specs.{Posting.{Posted, posted_along, posted_in}, Seat.{process_of, IsSeated}}, event_list.specs.declared.list.EventList.{EventList}}

module _ {M : Type 0} (S : Setting M) where
  -- whatever the list does from this world, it sent these letters before
  abbrev pub HasPosted : (w : World M) → List Posted → Type 0
  HasPosted w letters = (rest : List Pair) (last : World M) → Run S S.horizon w rest last
      → (whole : List Pair) × Run S S.horizon (opening S) whole last
      × (posted_along S (opening S) whole ≡ letters ++ posted_along S w rest)

-- these processes, from 1 on, and pending events are of a world that the list comes by after this trace and letters
pub record Stands (S : Setting Mind) (processes : List (Process Mind)) (pending : Events)
    (trace : List EntryRecord) (letters : List Posted) : Type 0 where
  pub world : World Mind
  pub is_world : IsWorld S world
  pub reached : IsReached S world trace
  pub posted : HasPosted S world letters
  pub process : (p : ℕ) → IsProcess S p → slice_get processes (p - 1) ≡ Some (world.process p)
  pub events : world.pending ≡ pending

-- the receiver's process, the entry and the events are those that its step made
pub record IsStepped {S : Setting Mind} (old new : List (Process Mind)) (before after : Events) (key : Key)
    (entry : EntryRecord) (made : Made S) : Type 0 where
  pub processes : new ≡ slice_set old (key.receiver - 1) made.process
  pub entry_is : entry ≡ made.entry
  pub pending : after ≡ joined before made.added

-- the letters of the step of an event, of a process of the scenario
abbrev pub posted_at : Record → Event → Process Mind → List Posted
posted_at s event before = posted_in (setting_of s) before event.0 event.1

module _ {M : Type 0} (mind : M → Mind) where
  abbrev pub processes_of : EventList M → List (Process Mind)
  processes_of list = map (process_of mind) list.seats.items

  -- each machine put at most so much on each link
  abbrev pub AreSeated : Record → (most : ℕ) → EventList M → Type 0
  AreSeated s most list = All (IsSeated mind s most) list.seats.items

  -- whichever process is at the place of the event's receiver
  abbrev pub ForReceiver : EventList M → Event → (Process Mind → Type 0) → Type 0
  ForReceiver list event Is =
      (before : Process Mind) → slice_get (processes_of list) (event.0.receiver - 1) ≡ Some before → Is before

  -- the list took the step of an event of this process
  abbrev pub TookStep : Record → (old new : EventList M) → Event → EntryRecord → Process Mind → Type 0
  TookStep s old new event entry before =
      IsStepped (processes_of old) (processes_of new) old.pending new.pending event.0 entry
      (step (setting_of s) before event.0 event.1)
