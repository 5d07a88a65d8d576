-- The marks of both pictures, the stretches of ticks at which a test holds, and the picture of who suspects whom.
use Rattle.std.specs.Prelude.{ℕ, ◌+◌, ◌-◌, ◌==◌, max, min, nat_lt, Bool, not, ◌&&◌, ◌||◌, Option, None, Some, List, [], ◌∷◌, ◌++◌, filter, map, flat_map, length, codes, decimal, ◌≡◌, suc, ◌<◌, ◌≤◌, ◌↔◌, true, false, Contains}
use Rattle.{std.specs.List.{AllPairs}, judges.specs.{Turns.{end_tick}, Out.{suspects}, Outcomes.{outcome}, declared.outcomes.Answer.{Answer}}}
use Rattle.judges.specs.declared.outcomes.Answer.TheVariants as answer
use Rattle.{process_api.specs.{Order.{EntryRecord}, Place.{numbers_to}}, scenario_record.specs.{Record.{Record, crash, outages_on}, declared.outage.Outage.{Outage}}, svg.specs.declared.{class.Class.{Class}, shape.Shape.{Shape}}}
use Rattle.svg.specs.declared.class.Class.TheVariants as class
use Rattle.svg.specs.declared.shape.Shape.TheVariants as shape
use Rattle.drawing.specs.{Frame.{IsPicture, said, point, left_room, row_height, x_of, shown, subjects, groups_bottom, row_top, left_out}, declared.bars.Bar.{Bar}}

module _ (test : ℕ → Bool) (from until : ℕ) where
  -- the test holds at ticks b.begin to b.end - 1, which can't be longer on either side among `from` to until - 1
  pub record IsMaximal (b : Bar) : Type 0 where
    pub low : from ≤ b.begin
    pub some : b.begin < b.end
    pub high : b.end ≤ until
    pub holds : (t : ℕ) → b.begin ≤ t → t < b.end → test t ≡ true
    pub not_before : (t : ℕ) → from ≤ t → suc t ≡ b.begin → test t ≡ false
    pub not_after : b.end < until → test b.end ≡ false

  -- all of them, each once, in the order of their ticks
  pub record AreBars (bars : List Bar) : Type 0 where
    pub all : (b : Bar) → Contains bars b ↔ IsMaximal b
    pub in_order : AllPairs (λ b c. b.end < c.begin) bars

-- the tick at which a process decides a value, if it does
abbrev pub decided : Answer → Option ℕ → Option ℕ
decided (answer.Value v) tick = tick
decided value tick = None

-- a process that crashes suspects nobody from then on: its rows end there
abbrev pub row_end : Record → (until q : ℕ) → ℕ
row_end S until q = min (end_tick S q) until

module _ (from until : ℕ) where
  -- a mark in the middle of a row, where there is one to show
  abbrev pub crash_shapes : (top : ℕ) → Option ℕ → List Shape
  crash_shapes top None = []
  crash_shapes top (Some tick) = shape.Cross class.Crash (point (x_of from until tick) (top + 8)) ∷ []

  abbrev pub decision_shapes : (top : ℕ) → Option ℕ → List Shape
  decision_shapes top None = []
  decision_shapes top (Some tick) = shape.Disc class.Decision (point (x_of from until tick) (top + 8)) 4 ∷ []

  -- a line up to a tick
  abbrev pub life_line : Class → (y end : ℕ) → Shape
  life_line class y end = shape.Line class (point left_room y) (point (x_of from until end) y)

  -- some ticks, at least one unit wide, so that they are seen
  abbrev pub stretch : Class → (top height begin end : ℕ) → Shape
  stretch class top height begin end =
      shape.Rect class (point (x_of from until begin) top) (max 1 (x_of from until end - x_of from until begin)) height

  -- an outage has one of these ticks
  abbrev pub is_seen : Outage → Bool
  is_seen o = nat_lt o.begin until && nat_lt from o.until

  -- the bands of a link's outages, of those that have one of these ticks: as high as a row
  abbrev pub bands : (top : ℕ) → List Outage → List Shape
  bands top outages = map (λ o. stretch class.Outage top row_height o.begin o.until) (filter is_seen outages)

-- the row of process q itself: its name, a line through which it is up, its decision and its crash
unfoldable pub own_at : Record → List EntryRecord → (from until top q : ℕ) → List Shape
own_at S trace from until top q = said class.Title (codes "process " ++ decimal q)
    ∷ life_line from until class.Life (top + 8) (row_end S until q)
    ∷ decision_shapes from until top (shown from until (decided (outcome trace q).value (outcome trace q).tick))
    ++ crash_shapes from until top (shown from until (crash S q))

-- where the bars of the base detector begin, below the top of their row: in the middle, or above those of a reduction
abbrev pub first_top : Option ℕ → ℕ
first_top None = 4
first_top (Some period) = 1

-- the bars of a reduction, where there is one
abbrev pub upper_bars : (share : Option ℕ) → List Bar → List Bar
upper_bars None bars = []
upper_bars (Some period) bars = bars

abbrev pub has_bar : List Bar → Bool
has_bar bars = not (length bars == 0)

-- a pair of processes has a row where it has a bar, of either layer
unfoldable pub has_row : Record → (bars : (layer q p : ℕ) → List Bar) → (q p : ℕ) → Bool
has_row S bars q p = has_bar (bars 1 q p) || has_bar (upper_bars S.share (bars 2 q p))

abbrev pub bar_shape : (from until : ℕ) → Class → (top : ℕ) → Bar → Shape
bar_shape from until class top b = stretch from until class top 6 b.begin b.end

-- the row of observer q and subject p: its name, a line up to its end, its bars, and the crash of the subject
unfoldable pub pair_at : Record → (from until : ℕ) (bars : (layer q p : ℕ) → List Bar) (top q p : ℕ) → List Shape
pair_at S from until bars top q p = said class.Label (decimal q ++ (codes ": " ++ decimal p))
    ∷ life_line from until class.Grid (top + 15) (row_end S until q)
    ∷ map (bar_shape from until class.First (top + first_top S.share)) (bars 1 q p)
    ++ (map (bar_shape from until class.Second (top + 8)) (upper_bars S.share (bars 2 q p))
    ++ crash_shapes from until top (shown from (row_end S until q) (crash S p)))

module _ (S : Record) (trace : List EntryRecord) (from until : ℕ) where
  module _ (bars : (layer q p : ℕ) → List Bar) where
    unfoldable pub group_shapes : (q : ℕ) → List Shape
    group_shapes q = own_at S trace from until (groups_bottom (has_row S bars) S.processes (q - 1)) q
        ++ flat_map (λ p. pair_at S from until bars (row_top (has_row S bars) S.processes q p) q p)
        (subjects (has_row S bars) S.processes q)

    -- the bands of these rows: in that of q and p, where the link from p to q is in an outage
    unfoldable pub group_bands : (q : ℕ) → List Shape
    group_bands q = flat_map (λ p. bands from until (row_top (has_row S bars) S.processes q p) (outages_on S p q))
        (subjects (has_row S bars) S.processes q)

  -- the text is a picture in which the bars of each pair are exactly its maximal stretches of suspicion from `from` to
  -- the end of its row, each once, in their order; it tells how many pairs have no bar
  pub record DrawsSuspicions (text : List ℕ) : Type 0 where
    pub bars : (layer q p : ℕ) → List Bar
    pub are_bars : (layer q p : ℕ) → AreBars (suspects layer trace q p) from (row_end S until q) (bars layer q p)
    pub picture :
        IsPicture (groups_bottom (has_row S bars) S.processes S.processes) (left_out (has_row S bars) S.processes)
        (flat_map (group_bands bars) (numbers_to S.processes)) (flat_map (group_shapes bars) (numbers_to S.processes))
        text
