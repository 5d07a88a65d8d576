-- The picture of letters: what went from whom to whom.
use Rattle.std.specs.{Prelude.{ℕ, ◌+◌, ◌-◌, ◌==◌, nat_lt, Bool, not, ◌&&◌, ◌||◌, if◌then◌else◌, Option, None, Some, List, [], ◌∷◌, ◌++◌, map, flat_map, filter, length, codes, decimal, nat_le}, List.{list_any}}
use Rattle.judges.specs.{Out.{suspects}, Outcomes.{outcome}, declared.outcomes.Answer.{Answer}}
use Rattle.judges.specs.declared.outcomes.Answer.TheVariants as answer
use Rattle.reporting.specs.declared.letter.{Letter.{Letter}, LetterFate.{LetterFate}}
use Rattle.reporting.specs.declared.letter.LetterFate.TheVariants as fate
use Rattle.process_api.specs.{Order.{EntryRecord}, Place.{numbers_to, others}, declared.entry.Kind.{Kind}}
use Rattle.process_api.specs.declared.entry.Kind.TheVariants as kind
use Rattle.{scenario_record.specs.Record.{Record, outages_on}, svg.specs.declared.{class.Class.{Class}, shape.{Point.{Point}, Shape.{Shape}}}}
use Rattle.svg.specs.declared.class.Class.TheVariants as class
use Rattle.svg.specs.declared.shape.Shape.TheVariants as shape
use Rattle.drawing.specs.{Suspicions.{AreBars, bands, own_at, row_end}, Frame.{IsPicture, said, point, left_room, axis_width, x_of, is_among, shown, lanes_bottom, line_of, own_top, on_way}}
use Rattle.drawing.specs.declared.{bars.Bar.{Bar}, error.DrawError.{DrawError, TheVariants.{TooManyProcesses, Ticks, TooManyLetters, Memory}}}

-- a letter is of some processes where its sender or its receiver is one of them; where none is named, all letters are
abbrev pub is_of : (of : List ℕ) → Letter → Bool
is_of of l = length of == 0 || (list_any (λ p. p == l.sender) of || list_any (λ p. p == l.receiver) of)

-- the letters of these processes that are sent at the ticks from `from` to until - 1, in their order
abbrev pub sent_among : (of : List ℕ) (from until : ℕ) → List Letter → List Letter
sent_among of from until letters = filter (λ l. is_among from until l.sent && is_of of l) letters

-- how many letters of others are sent at these ticks
abbrev pub count_others : (of : List ℕ) (from until : ℕ) → List Letter → ℕ
count_others of from until letters = length (filter (λ l. is_among from until l.sent && not (is_of of l)) letters)

-- whose letter it is
abbrev pub class_of : Kind → Class
class_of kind.Suspects = class.Reduction
class_of kind.Vector = class.Consensus
class_of kind.Last = class.Consensus
class_of kind.Estimate = class.Consensus
class_of kind.Proposal = class.Consensus
class_of kind.Reply = class.Consensus
class_of kind.Decide = class.Consensus
class_of detector = class.Detector

module _ (processes from until : ℕ) where
  -- a tick on the line of a process
  abbrev pub place : (tick p : ℕ) → Point
  place tick p = point (x_of from until tick) (line_of processes p)

  -- a lost letter of n processes ends one n-th of the way to its receiver's line, at another height for each receiver
  abbrev pub lost : Letter → Shape
  lost l = shape.Stub class.Lost (place l.sent l.sender)
      (point (x_of from until l.sent + 12)
      (on_way (line_of processes l.sender) (line_of processes l.receiver) 1 processes))

  -- a letter that is due at `until` or after leaves at the right edge, where the way to its place there goes through
  abbrev pub leaving : Letter → (due : ℕ) → Shape
  leaving l due = shape.Line class.Late (place l.sent l.sender)
      (point (left_room + axis_width)
      (on_way (line_of processes l.sender) (line_of processes l.receiver) (until - l.sent) (due - l.sent)))

  -- a letter that is due at one of the ticks ends there on its receiver's line, with a head where it is taken
  abbrev pub arriving : Letter → (due : ℕ) → LetterFate → Shape
  arriving l due fate.Taken = shape.Arrow (class_of l.kind) (place l.sent l.sender) (place due l.receiver)
  arriving l due fate.Dead = shape.Line class.Dead (place l.sent l.sender) (place due l.receiver)
  arriving l due fate.Late = shape.Line class.Late (place l.sent l.sender) (place due l.receiver)
  arriving l due fate.Lost = lost l

  abbrev pub ending : Letter → Option ℕ → Shape
  ending l None = lost l
  ending l (Some due) = if nat_lt due until then arriving l due l.fate else leaving l due

  -- one shape for each letter of these processes that is sent at these ticks, in the order of the letters
  abbrev pub arrows : (of : List ℕ) → List Letter → List Shape
  arrows of letters = map (λ l. ending l l.due) (sent_among of from until letters)

-- the upper layer of detectors that a scenario has
abbrev pub upper_layer : (share : Option ℕ) → ℕ
upper_layer None = 1
upper_layer (Some period) = 2

abbrev pub turn_class : (share : Option ℕ) → Class
turn_class None = class.First
turn_class (Some period) = class.Second

-- what a process decides, where its decision is shown
abbrev pub value_shapes : Answer → Option ℕ → List Shape
value_shapes (answer.Value v) (Some tick) = said class.Remark (codes "decides " ++ decimal v) ∷ []
value_shapes value tick = []

module _ (from until : ℕ) where
  -- a disc on the line of a process, and `+2` or `-2`
  abbrev pub turn_shapes : Class → (line : ℕ) (sign : List ℕ) (p : ℕ) → Option ℕ → List Shape
  turn_shapes style line sign p None = []
  turn_shapes style line sign p (Some tick) =
      shape.Disc style (point (x_of from until tick) line) 3 ∷ said class.Remark (sign ++ decimal p) ∷ []

  -- where the stretch of a suspicion begins, and where it ends before the line does
  abbrev pub bar_turns : Class → (line end p : ℕ) → Bar → List Shape
  bar_turns style line end p b = turn_shapes style line (codes "+") p (shown from end (Some b.begin))
      ++ turn_shapes style line (codes "-") p (shown from end (Some b.end))

module _ (S : Record) (trace : List EntryRecord) (from until : ℕ) where
  -- the bands of process q: where a link from it is in an outage
  unfoldable pub line_bands : (q : ℕ) → List Shape
  line_bands q = flat_map (λ p. bands from until (own_top S.processes q) (outages_on S q p)) (others S.processes q)

  module _ (bars : (q p : ℕ) → List Bar) where
    -- the marks of process q: what it decides, and where it begins to suspect each other one and trusts it again
    unfoldable pub mark_shapes : (q : ℕ) → List Shape
    mark_shapes q = value_shapes (outcome trace q).value (shown from until (outcome trace q).tick)
        ++ flat_map (λ p. flat_map (bar_turns from until (turn_class S.share) (line_of S.processes q)
        (row_end S until q) p) (bars q p)) (others S.processes q)

    -- a line for each process, an arrow for each letter of these processes that is sent at these ticks, and marks
    unfoldable pub letters_shapes : (of : List ℕ) → List Letter → List Shape
    letters_shapes of letters =
        flat_map (λ q. own_at S trace from until (own_top S.processes q) q) (numbers_to S.processes)
        ++ (arrows S.processes from until of letters ++ flat_map mark_shapes (numbers_to S.processes))

module _ (S : Record) (trace : List EntryRecord) (letters : List Letter) (of : List ℕ) (from until : ℕ) where
  -- the text pictures these letters of some processes, with marks where the maximal stretches of suspicion on the upper
  -- layer, from tick 0 to the observer's line's end, begin and end; it tells how many letters of others are left out
  pub record DrawsLetters (text : List ℕ) : Type 0 where
    pub bars : (q p : ℕ) → List Bar
    pub are_bars : (q p : ℕ) → AreBars (suspects (upper_layer S.share) trace q p) 0 (row_end S until q) (bars q p)
    pub picture :
        IsPicture (lanes_bottom S.processes) (count_others of from until letters)
        (flat_map (line_bands S trace from until) (numbers_to S.processes))
        (letters_shapes S trace from until bars of letters) text

-- the most processes and letters that are drawn
abbrev pub most_drawn : ℕ
most_drawn = 16

abbrev pub most_letters : ℕ
most_letters = 2000

-- of the processes and the ticks asked for the first refusal, if there is one
abbrev pub refusal : Record → (from until : ℕ) → Option DrawError
refusal S from until = if nat_lt most_drawn S.processes then Some TooManyProcesses
    else if nat_lt from until && nat_le until S.horizon then None
    else Some Ticks

-- where there is none of these, there is one where too many letters of these processes are sent at these ticks
abbrev pub letters_refusal : Record → List Letter → (of : List ℕ) (from until : ℕ) → Option DrawError
letters_refusal S letters of from until = elim (refusal S from until) [
  | Some first ↦ Some first
  | None ↦ if nat_lt most_letters (length (sent_among of from until letters)) then Some TooManyLetters else None
]

abbrev pub IsMemory : DrawError → Type 0
IsMemory TooManyProcesses = ⊥
IsMemory Ticks = ⊥
IsMemory TooManyLetters = ⊥
IsMemory (Memory e) = Unit {0}
