-- One step of one process: what an event does to the process that receives it.
use Rattle.std.specs.{Prelude.{ℕ, ◌+◌, Bool, true, false, if◌then◌else◌, List, [], ◌∷◌, ◌++◌, nat_lt, nat_eq}, FinMap.{FinMap}}
use Rattle.process_api.specs.{Answer.{Answer}, Order.{EntryRecord, key_cmp}, Place.{change}, declared.{action.{Action.{Action}, Note.{Note}}, entry.Kind.{Kind}, key.Key.{Key}, message.{Payload.{Payload}, StepInput.{StepInput}, Tag.{Tag}}}}
use Rattle.process_api.specs.declared.action.Action.TheVariants as action
use Rattle.process_api.specs.declared.entry.Kind.TheVariants as kind
use Rattle.process_api.specs.declared.message.Payload.TheVariants as payload
use Rattle.process_api.specs.declared.message.StepInput.TheVariants as input
use Rattle.process_api.specs.declared.message.Tag.TheVariants as tag
use Rattle.{streams.specs.declared.fate.Fate.{Fate}, trace_laws.specs.Setting.{Setting, has_crashed}}
use Rattle.streams.specs.declared.fate.Fate.TheVariants as fate

-- an event: its key, and what the receiver takes
abbrev pub Event : Type 0
Event = Key × StepInput

-- a finite set of events, no two with one key
abbrev pub Events : Type 0
Events = FinMap key_cmp StepInput

-- a process: its mind, and how much it put on the link to each process so far
pub record Process (Mind : Type 0) : Type 0 where
  pub mind : Mind
  pub counts : ℕ → ℕ

abbrev pub kind_of_tag : Tag → Kind
kind_of_tag tag.Beat = kind.Beat
kind_of_tag tag.Check = kind.Check
kind_of_tag tag.Share = kind.Share

abbrev pub kind_of_payload : Payload → Kind
kind_of_payload payload.Alive = kind.Alive
kind_of_payload (payload.Heartbeat number) = kind.Heartbeat
kind_of_payload (payload.Suspects set) = kind.Suspects
kind_of_payload (payload.Vector round cells) = kind.Vector
kind_of_payload (payload.Last cells) = kind.Last
kind_of_payload (payload.Estimate round value stamp) = kind.Estimate
kind_of_payload (payload.Proposal round value) = kind.Proposal
kind_of_payload (payload.Reply round ack) = kind.Reply
kind_of_payload (payload.Decide round value) = kind.Decide

abbrev pub kind_of : StepInput → Kind
kind_of input.Start = kind.Start
kind_of (input.Letter sender what) = kind_of_payload what
kind_of (input.Wake for) = kind_of_tag for

-- the entry of an event that comes to a crashed process
abbrev pub dead : Key → EntryRecord
dead key = record { key = key; kind = kind.Dead; sent = 0; lost = 0; notes = [] }

-- ---- what the actions of a step do by themselves

-- one more on the link to a process
abbrev pub raised : (ℕ → ℕ) → ℕ → ℕ → ℕ
raised counts to = change counts to (counts to + 1)

-- the counts of process p after one action: letters and wakes count, lost and late ones too
abbrev pub counted : (p : ℕ) → (ℕ → ℕ) → Action → ℕ → ℕ
counted p counts (action.Send to what) = raised counts to
counted p counts (action.Wake pause for) = raised counts p
counted p counts (action.Note note) = counts

abbrev pub sent_by : Action → ℕ
sent_by (action.Send to what) = 1
sent_by (action.Wake pause for) = 0
sent_by (action.Note note) = 0

abbrev pub noted_by : Action → List Note
noted_by (action.Send to what) = []
noted_by (action.Wake pause for) = []
noted_by (action.Note note) = note ∷ []

-- the same of all actions of a step, in their order
abbrev pub counts_after : (p : ℕ) → (ℕ → ℕ) → List Action → ℕ → ℕ
counts_after p counts [] = counts
counts_after p counts (a ∷ actions) = counts_after p (counted p counts a) actions

abbrev pub sent : List Action → ℕ
sent [] = 0
sent (a ∷ actions) = sent_by a + sent actions

abbrev pub noted : List Action → List Note
noted [] = []
noted (a ∷ actions) = noted_by a ++ noted actions

abbrev pub is_lost : Fate → Bool
is_lost fate.Lost = true
is_lost (fate.Delay ticks) = false

-- an event joins only below the horizon
abbrev pub in_time : (horizon : ℕ) → Key → StepInput → List Event
in_time horizon key x = if nat_lt key.tick horizon then (key, x) ∷ [] else []

-- a letter to another process, sent at the tick of this key, joins by its fate
abbrev pub by_fate : (horizon : ℕ) → Fate → Key → StepInput → List Event
by_fate horizon fate.Lost key x = []
by_fate horizon (fate.Delay ticks) key x = in_time horizon (record key { tick = key.tick + ticks }) x

-- ---- what they do in a setting

module _ {Mind : Type 0} (S : Setting Mind) where
  -- process p acts at tick now
  module _ (p now : ℕ) where
    -- the event that joins by one action, if one does: its number is the count of its link with it. A letter to
    -- oneself takes one tick and is never lost
    abbrev pub joining : (ℕ → ℕ) → Action → List Event
    joining counts (action.Send to what) = if nat_eq to p
        then in_time S.horizon (record { tick = now + 1; receiver = p; sender = p; number = counts p + 1 })
        (input.Letter p what)
        else by_fate S.horizon (S.fate p to (counts to + 1) now)
        (record { tick = now; receiver = to; sender = p; number = counts to + 1 }) (input.Letter p what)
    joining counts (action.Wake pause for) =
        in_time S.horizon (record { tick = now + pause; receiver = p; sender = p; number = counts p + 1 })
        (input.Wake for)
    joining counts (action.Note note) = []

    abbrev pub lost_by : (ℕ → ℕ) → Action → ℕ
    lost_by counts (action.Send to what) =
        if nat_eq to p then 0 else (if is_lost (S.fate p to (counts to + 1) now) then 1 else 0)
    lost_by counts (action.Wake pause for) = 0
    lost_by counts (action.Note note) = 0

    -- the same of all actions of a step, in their order
    abbrev pub added : (ℕ → ℕ) → List Action → List Event
    added counts [] = []
    added counts (a ∷ actions) = joining counts a ++ added (counted p counts a) actions

    abbrev pub lost : (ℕ → ℕ) → List Action → ℕ
    lost counts [] = 0
    lost counts (a ∷ actions) = lost_by counts a + lost (counted p counts a) actions

  -- what a step makes: the process afterwards, the entry, and the events that join
  pub record Made : Type 0 where
    pub process : Process Mind
    pub entry : EntryRecord
    pub added : List Event

  -- by what the receiver's mind answers
  abbrev pub made_by : Process Mind → Key → StepInput → Answer Mind → Made
  made_by before key x answer = record {
    process = record { mind = answer.state; counts = counts_after key.receiver before.counts answer.actions };
    entry = record {
      key = key;
      kind = kind_of x;
      sent = sent answer.actions;
      lost = lost key.receiver key.tick before.counts answer.actions;
      notes = noted answer.actions;
    };
    added = added key.receiver key.tick before.counts answer.actions;
  }

  -- a crashed receiver does nothing
  abbrev pub step : Process Mind → Key → StepInput → Made
  step before key x = if has_crashed (S.crash key.receiver) key.tick
      then record { process = before; entry = dead key; added = [] }
      else made_by before key x (S.react before.mind key.tick x)
