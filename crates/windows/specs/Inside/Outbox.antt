-- What a process causes in a window, as it is handed on.
use Rattle.std.specs.Prelude.{◌≡◌, ℕ, List, length}
use Rattle.{process_api.specs.Mind.{Mind}, scenario_record.specs.Record.{Record}, steps.specs.{Seat.{process_of}, declared.seat.Seat.{Seat}}, trace_laws.specs.{Setting.{setting_of}, Step.{Event, Events, Made, step}, World.{joined}}}
use Rattle.{window_laws.specs.Machine.{for_self}, windows.specs.{Berth.{AreFiled}, declared.outbox.Outbox.{Outbox}}}

-- what the process in a seat makes of an event
abbrev pub made_in : {M : Type 0} (mind : M → Mind) (s : Record) → Seat M → Event → Made (setting_of s)
made_in mind s seat event = step (setting_of s) (process_of mind seat) event.0 event.1

-- the pending events of process p, when those of further events that are for it have joined
abbrev pub with_own : (p : ℕ) → Events → List Event → Events
with_own p pending events = joined pending (for_self p events)

-- the outbox has the pending events and the tray that it had at first, and takes what process `own` of so many causes
pub record IsFor {R : Type 0} (first now : Outbox R) (own processes : ℕ) : Type 0 where
  pub pending : now.pending.ghost_name ≡ first.pending.ghost_name
  pub tray : now.tray.ghost_name ≡ first.tray.ghost_name
  pub own_is : now.own ≡ own
  pub count : length now.tray.now ≡ processes

-- those of these events that are for the process itself joined its pending ones, and the others wait in the tray
pub record HandedOn {R : Type 0} (old : Outbox R) (events : List Event) (new : Outbox R) : Type 0 where
  pub own : new.own ≡ old.own
  pub pending : new.pending.now ≡ with_own old.own old.pending.now events
  pub letters : AreFiled old.own events old.tray.now new.tray.now
