-- The pending events of a process: those of the window that is run, and others.
use Rattle.std.specs.{Prelude.{◌≡◌, ◌≤◌, ◌<◌, ◌++◌, ℕ, List, [], ◌∷◌, map, Option, Some, None}, List.{AllByRecursion}}
use Rattle.std.specs.FinMap as events
use Rattle.{process_api.specs.declared.{key.Key.{Key}, message.{Letter.{Letter}, StepInput.{StepInput}}}, mailboxes.specs.Mailboxes.{earlier_of}}
use Rattle.{trace_laws.specs.{History.{IsIn}, Step.{Event, Events}, Taken.{event_of}, World.{Has, joined}}, windows.specs.declared.agenda.{Inner.{Inner}, Lists.{Lists}, Parted.{Parted}}}

-- the least tick of these events, if there are any
abbrev pub first_tick : List Event → Option ℕ
first_tick [] = None
first_tick (e ∷ es) = earlier_of (Some e.0.tick) (first_tick es)

-- all events are of this tick or later
abbrev pub AreFrom : ℕ → List Event → Type 0
AreFrom tick es = AllByRecursion (λ e. tick ≤ e.0.tick) es

abbrev pub all_in : Lists → Events
all_in a = joined a.row a.later.items

-- the letters of an inbox, if there is one
abbrev pub in_box : Option (List Letter) → List Letter
in_box None = []
in_box (Some letters) = letters

-- the events of the lists, and those of an inbox
abbrev pub all_ahead : Lists → Option (List Letter) → Events
all_ahead a inbox = joined (all_in a) (map event_of (in_box inbox))

-- letters with one key become one event
abbrev pub AreOne : List Letter → Type 0
AreOne letters = (x y : Letter) → IsIn x letters → IsIn y letters → x.key ≡ y.key → event_of x ≡ event_of y

-- in the row are events below the end, and others wait
pub record AreLists (a : Lists) : Type 0 where
  pub below : (key : Key) (input : StepInput) → Has a.row key input → key.tick < a.end
  pub from : AreFrom a.end a.later.items
  pub next : a.next ≡ first_tick a.later.items

-- what holds of a process's lists and inbox: the lists are parted, and letters with one key are one event
abbrev pub IsInner : Inner → Type 0
IsInner i = AreLists i.lists × AreOne (in_box i.inbox)

-- the events were put in order up to a tick: they are the same, and the inbox is empty
pub record IsInOrder (end : ℕ) (before after : Inner) : Type 0 where
  pub same : all_in after.lists ≡ all_ahead before.lists before.inbox
  pub end_is : after.lists.end ≡ end
  pub empty : in_box after.inbox ≡ []

-- these events, parted
pub record IsParted (end : ℕ) (es : List Event) (p : Parted) : Type 0 where
  pub end_is : p.end ≡ end
  pub same : joined events.empty (p.due.items ++ p.later.items) ≡ joined events.empty es
  pub below : AllByRecursion (λ e. e.0.tick < end) p.due.items
  pub from : AreFrom end p.later.items
  pub next : p.next ≡ first_tick p.later.items

-- these letters were filed: what was parted by the first, and then they, are parted by the second
abbrev pub HasFiled : (first now : Parted) → List Letter → Type 0
HasFiled first now letters =
    (end : ℕ) (es : List Event) → IsParted end es first → IsParted end (es ++ map event_of letters) now
