-- The letters of a scenario's run, and what becomes of each.
use Rattle.std.specs.{Prelude.{◌≡◌, ◌≢◌, ◌⊎◌, ◌==◌, ◌&&◌, ℕ, ◌+◌, ◌<◌, ◌≤◌, Bool, true, false, if◌then◌else◌, nat_le, Option, None, Some, List, [], ◌∷◌, filter, length, map}, List.{All, count_by, range_with_len, sum_by}}
use Rattle.process_api.specs.Order.{EntryRecord}
use Rattle.process_api.specs.declared.entry.Kind.TheVariants as kind
use Rattle.{scenario_record.specs.Record.{Record}, streams.specs.declared.fate.Fate.{Fate}}
use Rattle.streams.specs.declared.fate.Fate.TheVariants as link
use Rattle.{steps.specs.Posting.{Posted, ArePosted}, trace_laws.specs.{History.{IsIn}, Setting.{setting_of, Setting, has_crashed}, Step.{kind_of_payload}}, reporting.specs.declared.letter.{Letter.{Letter}, LetterFate.{LetterFate}}}
use Rattle.reporting.specs.declared.letter.LetterFate.TheVariants as fate

-- when a letter that is sent at this tick is due, unless its link loses it
abbrev pub due_of : (sent : ℕ) → Fate → Option ℕ
due_of sent link.Lost = None
due_of sent (link.Delay ticks) = Some (sent + ticks)

module _ {Mind : Type 0} (S : Setting Mind) where
  -- what becomes of a letter to this receiver that is due then: at the horizon or after, the run is over
  abbrev pub fate_of : (receiver : ℕ) → (due : Option ℕ) → LetterFate
  fate_of receiver None = fate.Lost
  fate_of receiver (Some due) = if nat_le S.horizon due then fate.Late
      else (if has_crashed (S.crash receiver) due then fate.Dead else fate.Taken)

  -- what is told of a letter that was put on its link
  abbrev pub letter_of : Posted → Letter
  letter_of posted = record {
    sent = posted.key.tick;
    sender = posted.key.sender;
    receiver = posted.key.receiver;
    number = posted.key.number;
    kind = kind_of_payload posted.payload;
    due = due_of posted.key.tick posted.fate;
    fate = fate_of posted.key.receiver (due_of posted.key.tick posted.fate);
  }

-- letters that a run's steps put on links between different processes, each once, in the order of steps and actions
abbrev pub AreLetters : Record → List Letter → Type 0
AreLetters s letters =
    (posted : List Posted) × ArePosted (setting_of s) posted × (letters ≡ map (letter_of (setting_of s)) posted)

-- a letter isn't sent after another: by the tick, and at one tick by the sender
abbrev pub IsNotAfter : Letter → Letter → Type 0
IsNotAfter l m = (l.sent < m.sent) ⊎ ((l.sent ≡ m.sent) × (l.sender ≤ m.sender))

-- each letter isn't sent after those that follow it
abbrev pub AreInOrder : List Letter → Type 0
AreInOrder [] = Unit {0}
AreInOrder (l ∷ later) = All (IsNotAfter l) later × AreInOrder later

-- a letter's entry: its key, at the tick when it is due; its kind is the letter's if taken, and dead if it is dead
pub record IsEntryOf (letter : Letter) (entry : EntryRecord) : Type 0 where
  pub due : letter.due ≡ Some entry.key.tick
  pub receiver : letter.receiver ≡ entry.key.receiver
  pub sender : letter.sender ≡ entry.key.sender
  pub number : letter.number ≡ entry.key.number
  pub end : ((letter.fate ≡ fate.Taken) × (entry.kind ≡ letter.kind))
      ⊎ ((letter.fate ≡ fate.Dead) × (entry.kind ≡ kind.Dead))

-- each letter that was taken, or is dead, has its entry in the trace, and each entry of an event that another process
-- than its receiver caused is of one of the letters
pub record AreInTrace (trace : List EntryRecord) (told : List Letter) : Type 0 where
  pub entries : (letter : Letter) → IsIn letter told → (letter.fate ≡ fate.Taken) ⊎ (letter.fate ≡ fate.Dead)
      → (entry : EntryRecord) × IsIn entry trace × IsEntryOf letter entry
  pub letters : (entry : EntryRecord) → IsIn entry trace → entry.key.sender ≢ entry.key.receiver
      → (letter : Letter) × IsIn letter told × IsEntryOf letter entry

-- the numbers of the letters on a link, in their order
abbrev pub numbers_on : (sender receiver : ℕ) → List Letter → List ℕ
numbers_on sender receiver told =
    map (λ l. l.number) (filter (λ l. (l.sender == sender) && (l.receiver == receiver)) told)

-- on each link they are 1, 2, 3 and so on, without a gap
abbrev pub AreNumbered : List Letter → Type 0
AreNumbered told = (sender receiver : ℕ) → sender ≢ receiver
    → numbers_on sender receiver told ≡ range_with_len 1 (length (numbers_on sender receiver told))

abbrev pub is_lost : LetterFate → Bool
is_lost fate.Lost = true
is_lost fate.Taken = false
is_lost fate.Dead = false
is_lost fate.Late = false

-- as many letters are lost as the entries of the trace count
abbrev pub AreLostAs : List EntryRecord → List Letter → Type 0
AreLostAs trace told = count_by (λ l. is_lost l.fate) told ≡ sum_by (λ e. e.lost) trace
