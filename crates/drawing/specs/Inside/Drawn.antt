-- The pieces of a picture, of a run and some ticks of it.
use Rattle.std.specs.Prelude.{◌≡◌, ◌≤◌, ℕ, ◌+◌, ◌-◌, ◌*◌, Bool, not, List, ◌++◌, filter, flat_map, length, sum_by, Option}
use Rattle.{judges.specs.{Out.{suspects}, Outcomes.{outcome}, declared.outcomes.Outcome.{Outcome}}, process_api.specs.Place.{numbers_to, others}, scenario_record.specs.Record.{outages_on}, reporting.specs.declared.letter.Letter.{Letter}}
use Rattle.svg.specs.declared.shape.Shape.{Shape}
use Rattle.drawing.specs.{Frame.{placeless, groups_bottom, row_height, row_top, line_of, own_top}, Suspicions.{bands, row_end, upper_bars, has_row, pair_at, own_at, group_shapes, group_bands}, Inside.Sweeping.{stretches}}
use Rattle.drawing.specs.LettersPicture.{arrows, bar_turns, line_bands, mark_shapes, turn_class, turn_shapes, upper_layer}
use Rattle.drawing.specs.declared.{bars.Bar.{Bar}, groups.{Row.{Row}, Rows.{Rows}, Run.{Run}}, pairs.PairBars.{PairBars}, layout.Ticks.{Ticks}, marks.Spot.{Spot}}

-- the bars of a pair on a layer
abbrev pub bars_in : Run → (layer q p : ℕ) → List Bar
bars_in run layer q p =
    stretches (suspects layer run.trace.now q p) run.ticks.from (row_end run.scenario.now run.ticks.until q)

-- the bars of a pair on both layers
pub record ArePairBars (run : Run) (q p : ℕ) (b : PairBars) : Type 0 where
  pub first : b.first.items ≡ bars_in run 1 q p
  pub second : b.second.items ≡ upper_bars run.scenario.now.share (bars_in run 2 q p)

unfoldable pub has_row_in : Run → (q p : ℕ) → Bool
has_row_in run q p = has_row run.scenario.now (bars_in run) q p

-- of a row
unfoldable pub pair_of : Run → Row → List Shape
pair_of run row = pair_at run.scenario.now run.ticks.from run.ticks.until (bars_in run) row.top row.observer row.subject

unfoldable pub own_of : Run → (top q : ℕ) → List Shape
own_of run top q = own_at run.scenario.now run.trace.now run.ticks.from run.ticks.until top q

-- where the rows of the first k processes end
abbrev pub groups_end : Run → (k : ℕ) → ℕ
groups_end run k = groups_bottom (has_row_in run) run.scenario.now.processes k

abbrev pub row_at : Run → (q p : ℕ) → ℕ
row_at run q p = row_top (has_row_in run) run.scenario.now.processes q p

-- of the row of two processes
unfoldable pub pair_in : Run → (q p : ℕ) → List Shape
pair_in run q p = pair_at run.scenario.now run.ticks.from run.ticks.until (bars_in run) (row_at run q p) q p

unfoldable pub bands_in : Run → (q p : ℕ) → List Shape
bands_in run q p = bands run.ticks.from run.ticks.until (row_at run q p) (outages_on run.scenario.now p q)

unfoldable pub group_of : Run → (q : ℕ) → List Shape
group_of run q = group_shapes run.scenario.now run.trace.now run.ticks.from run.ticks.until (bars_in run) q

unfoldable pub group_bands_of : Run → (q : ℕ) → List Shape
group_bands_of run q = group_bands run.scenario.now run.trace.now run.ticks.from run.ticks.until (bars_in run) q

-- how many other processes have no row of process q
abbrev pub absent : (has_row : (q p : ℕ) → Bool) (processes q : ℕ) → ℕ
absent has_row processes q = length (filter (λ p. not (has_row q p)) (others processes q))

-- the rows of the processes before q, that of q itself, and those of q and these others
pub record AreRowsOf (run : Run) (q : ℕ) (ps : List ℕ) (rows : Rows) : Type 0 where
  pub shapes :
      placeless rows.shapes.items ≡ flat_map (group_of run) (numbers_to (q - 1))
      ++ (own_of run (groups_end run (q - 1)) q ++ flat_map (pair_in run q) (filter (has_row_in run q) ps))
  pub bands :
      rows.bands.items ≡ flat_map (group_bands_of run) (numbers_to (q - 1))
      ++ flat_map (bands_in run q) (filter (has_row_in run q) ps)
  pub top : rows.top ≡ groups_end run (q - 1) + (1 + length (filter (has_row_in run q) ps)) * row_height
  pub left_out :
      rows.left_out ≡ sum_by (absent (has_row_in run) run.scenario.now.processes) (numbers_to (q - 1))
      + length (filter (λ p. not (has_row_in run q p)) ps)

-- the rows of the first k processes
pub record AreRows (run : Run) (k : ℕ) (rows : Rows) : Type 0 where
  pub shapes : placeless rows.shapes.items ≡ flat_map (group_of run) (numbers_to k)
  pub bands : rows.bands.items ≡ flat_map (group_bands_of run) (numbers_to k)
  pub top : rows.top ≡ groups_end run k
  pub left_out : rows.left_out ≡ sum_by (absent (has_row_in run) run.scenario.now.processes) (numbers_to k)

-- the outcome is that of the process whose rows come next
pub record IsNext (run : Run) (told : Outcome) (rows : Rows) : Type 0 where
  pub told_is : told ≡ outcome run.trace.now told.pid
  pub low : 1 ≤ told.pid
  pub high : told.pid ≤ run.scenario.now.processes
  pub before : AreRows run (told.pid - 1) rows

-- the marks at a spot: of a tick, and of a stretch
module _ (ticks : Ticks) (spot : Spot) where
  abbrev pub turn_at : (sign : List ℕ) → Option ℕ → List Shape
  turn_at sign tick = turn_shapes ticks.from ticks.until spot.class spot.line sign spot.subject tick

  abbrev pub bar_turns_at : Bar → List Shape
  bar_turns_at bar = bar_turns ticks.from ticks.until spot.class spot.line spot.end spot.subject bar

-- the letters of some processes
abbrev pub arrows_in : Run → (of : List ℕ) → List Letter → List Shape
arrows_in run of letters = arrows run.scenario.now.processes run.ticks.from run.ticks.until of letters

-- the stretches of suspicion of a pair
abbrev pub turn_bars : Run → (q p : ℕ) → List Bar
turn_bars run q p = stretches (suspects (upper_layer run.scenario.now.share) run.trace.now q p) 0
    (row_end run.scenario.now run.ticks.until q)

abbrev pub lines_in : Run → List Shape
lines_in run =
    flat_map (λ q. own_of run (own_top run.scenario.now.processes q) q) (numbers_to run.scenario.now.processes)

-- the bands of a link from process q
unfoldable pub link_bands : Run → (q p : ℕ) → List Shape
link_bands run q p =
    bands run.ticks.from run.ticks.until (own_top run.scenario.now.processes q) (outages_on run.scenario.now q p)

unfoldable pub line_bands_in : Run → (q : ℕ) → List Shape
line_bands_in run q = line_bands run.scenario.now run.trace.now run.ticks.from run.ticks.until q

abbrev pub all_line_bands_in : Run → List Shape
all_line_bands_in run = flat_map (line_bands_in run) (numbers_to run.scenario.now.processes)

unfoldable pub turns_in : Run → (q p : ℕ) → List Shape
turns_in run q p = flat_map (bar_turns run.ticks.from run.ticks.until (turn_class run.scenario.now.share)
    (line_of run.scenario.now.processes q) (row_end run.scenario.now run.ticks.until q) p) (turn_bars run q p)

abbrev pub turns_of_others : Run → (q : ℕ) → List Shape
turns_of_others run q = flat_map (turns_in run q) (others run.scenario.now.processes q)

unfoldable pub marks_in : Run → (q : ℕ) → List Shape
marks_in run q = mark_shapes run.scenario.now run.trace.now run.ticks.from run.ticks.until (turn_bars run) q

abbrev pub all_marks_in : Run → List Shape
all_marks_in run = flat_map (marks_in run) (numbers_to run.scenario.now.processes)
