-- What the code's events and letters are.
use Rattle.process_api.specs.{Rows.{IsSomeKnown, Vector}, Sets.{HasAbove, of_word}, declared.message.{Letter.{Letter}, Payload.{Payload}, StepInput.{StepInput}}}
use Rattle.process_api.specs.declared.message.Payload.TheVariants as payload
use Rattle.process_api.specs.declared.message.StepInput.TheVariants as input
use Rattle.trace_laws.specs.{Step.{Event}, declared.event.Taken.{Taken}}
use Rattle.trace_laws.specs.declared.event.Taken.TheVariants as taken
use Rattle.std.specs.Prelude.{ℕ, ◌≤◌, ◌^◌, ◌⊎◌, ⊤, length, replicate, None, List, ◌++◌}

-- what a process takes, where this one is the sender
abbrev pub input_of : ℕ → Taken → StepInput
input_of sender taken.Start = input.Start
input_of sender (taken.Wake tag) = input.Wake tag
input_of sender taken.Alive = input.Letter sender payload.Alive
input_of sender (taken.Heartbeat number) = input.Letter sender (payload.Heartbeat number)
input_of sender (taken.Suspects word) = input.Letter sender (payload.Suspects (of_word word))
input_of sender (taken.Estimate round value stamp) = input.Letter sender (payload.Estimate round value stamp)
input_of sender (taken.Proposal value round) = input.Letter sender (payload.Proposal round value)
input_of sender (taken.Reply ack round) = input.Letter sender (payload.Reply round ack)
input_of sender (taken.Decide value round) = input.Letter sender (payload.Decide round value)
input_of sender (taken.Empty alloc n round) = input.Letter sender (payload.Vector round (replicate n None))
input_of sender (taken.Aside what) = input.Letter sender what.value

-- the event that a letter becomes
abbrev pub event_of : Letter → Event
event_of x = (x.key, input.Letter x.key.sender x.payload)

-- what a letter says, where this is one
abbrev pub said_in : StepInput → Payload
said_in (input.Letter sender said) = said
said_in _ = payload.Alive

-- the letter that became this event
abbrev pub letter_of : Event → Letter
letter_of e = record { key = e.0; payload = said_in e.1 }

-- a round and a stamp of which one doesn't fit into 32 bits
abbrev pub AreLong : (round stamp : ℕ) → Type 0
AreLong round stamp = (2 ^ 32 ≤ round) ⊎ (2 ^ 32 ≤ stamp)

-- cells of which one is filled, or of which there are too many to count in 32 bits
abbrev pub AreFilled : Vector → Type 0
AreFilled cells = IsSomeKnown cells ⊎ (2 ^ 32 ≤ length cells)

-- what takes memory of its own: a set with a member above 64, cells of a round that are filled, all cells of the last
-- round, or an estimate's long round or stamp
abbrev pub LiesAside : Payload → Type 0
LiesAside (payload.Suspects set) = HasAbove 64 set
LiesAside (payload.Vector round cells) = AreFilled cells
LiesAside (payload.Last cells) = ⊤
LiesAside (payload.Estimate round value stamp) = AreLong round stamp
LiesAside _ = ⊥

-- these joined after whatever had joined before, in order and alone; `grown` says that they made the one of the other
abbrev pub HaveJoined : {J E : Type 0} (grown : J → List E → J → Type 0) (old new : J) → List E → Type 0
HaveJoined {J} {E} grown old new more =
    (first : J) (before : List E) → grown first before old → grown first (before ++ more) new

-- it takes what process `own` of so many causes. `serves` says what that means, where it was another at first
abbrev pub Serves : {J : Type 0} (serves : J → J → ℕ → ℕ → Type 0) → J → (own processes : ℕ) → Type 0
Serves {J} serves now own processes = (first : J) × serves first now own processes

-- whatever it was at first, it takes what it took before
abbrev pub StillServes : {J : Type 0} (serves : J → J → ℕ → ℕ → Type 0) → (old new : J) → Type 0
StillServes {J} serves old new =
    (first : J) (own processes : ℕ) → serves first old own processes → serves first new own processes
