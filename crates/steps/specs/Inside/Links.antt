-- What the actions of a step do, as the links of the process stand.
use Rattle.std.specs.Prelude.{ℕ, ◌+◌, ◌++◌, List}
use Rattle.{process_api.specs.{Order.{EntryRecord}, Mind.{Mind}, declared.{action.{Action.{Action}, Note.{Note}}, entry.Kind.{Kind}, key.Key.{Key}}}, scenario_record.specs.Record.{Record}}
use Rattle.{trace_laws.specs.{Setting.{setting_of, Setting}, Step.{sent_by, lost_by, noted_by, sent, lost, noted}}, steps.specs.{Seat.{count_of}, declared.links.Links.{Links}}}

-- the key so many ticks later
abbrev pub later : Key → (ticks : ℕ) → Key
later key ticks = record key { tick = key.tick + ticks }

-- what a step did, without where it lies in memory
pub record DoneRecord : Type 0 where
  pub sent : ℕ
  pub lost : ℕ
  pub notes : List Note

-- the entry of a step
abbrev pub entry_of : Key → Kind → DoneRecord → EntryRecord
entry_of key kind done = record { key = key; kind = kind; sent = done.sent; lost = done.lost; notes = done.notes }

-- in the step of this key
module _ (links : Links) (key : Key) where
  -- the key of a wake that is set
  abbrev pub wake_key : (pause : ℕ) → Key
  wake_key pause =
      record (later key pause) { sender = key.receiver; number = count_of links.counts.items key.receiver + 1 }

  module _ (s : Record) where
    -- what a word of the step's actions means in this scenario
    abbrev pub in_step : {X : Type 0} → (Setting Mind → ℕ → ℕ → (ℕ → ℕ) → X) → X
    in_step word = word (setting_of s) key.receiver key.tick (count_of links.counts.items)

    -- what was done, with one action more
    abbrev pub with_action : DoneRecord → Action → DoneRecord
    with_action done action = record {
      sent = done.sent + sent_by action;
      lost = done.lost + in_step lost_by action;
      notes = done.notes ++ noted_by action;
    }

    -- what all actions do
    abbrev pub done_by : List Action → DoneRecord
    done_by actions = record { sent = sent actions; lost = in_step lost actions; notes = noted actions }
