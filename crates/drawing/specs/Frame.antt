-- A picture's title, legend, labels and axis of ticks, and where marks stand, in whole user units from the top left.
use Rattle.std.specs.Prelude.{◌≡◌, ◌⊎◌, ℕ, ◌+◌, ◌≤◌, max, nat_lt, Bool, true, false, ◌||◌, List, ◌++◌, map, Contains, codes, decimal, not, ◌-◌, ◌*◌, ◌/◌, min, nat_le, ◌&&◌, if◌then◌else◌, Option, None, Some, filter, length, sum_by}
use Rattle.{std.specs.List.{list_all}, process_api.specs.Place.{numbers_to, others}, svg.specs.{Document.{IsDocument}, declared.{class.Class.{Class}, shape.{Shape.{Shape}, Point.{Point}}}}}
use Rattle.svg.specs.declared.class.Class.TheVariants as class
use Rattle.svg.specs.declared.shape.Anchor.TheVariants as anchor
use Rattle.svg.specs.declared.shape.Shape.TheVariants as shape

-- names stand in a room on the left of the ticks, which share a width, and all but marks in one above the rows
abbrev pub left_room : ℕ
left_room = 88

abbrev pub axis_width : ℕ
axis_width = 800

abbrev pub head_room : ℕ
head_room = 80

abbrev pub row_height : ℕ
row_height = 16

abbrev pub point : (x y : ℕ) → Point
point x y = record { x = x; y = y }

module _ (from until : ℕ) where
  -- where a tick begins, from the left: those asked for go evenly through the width, others stand at the edges
  unfoldable pub x_of : (tick : ℕ) → ℕ
  x_of tick = left_room + ((min tick until - from) * axis_width) / (until - from)

  abbrev pub is_among : (tick : ℕ) → Bool
  is_among tick = nat_le from tick && nat_lt tick until

-- a tick, where it is one from `from` to end - 1
abbrev pub shown : (from end : ℕ) → Option ℕ → Option ℕ
shown from end None = None
shown from end (Some tick) = if nat_le from tick && nat_lt tick end then Some tick else None

-- who suspects whom: each process q has a row and, below it, one for each other process p of which a test tells
module _ (has_row : (q p : ℕ) → Bool) where
  -- of the first n processes those that have a row of process q
  abbrev pub subjects : (n q : ℕ) → List ℕ
  subjects n q = filter (has_row q) (others n q)

  -- the rows of a process, and some room below them
  abbrev pub group_height : (processes q : ℕ) → ℕ
  group_height processes q = (1 + length (subjects processes q)) * row_height + 10

  -- where the rows of the first k processes end, and those of the next one begin
  unfoldable pub groups_bottom : (processes k : ℕ) → ℕ
  groups_bottom processes k = head_room + sum_by (group_height processes) (numbers_to k)

  -- where the row of processes q and p begins
  unfoldable pub row_top : (processes q p : ℕ) → ℕ
  row_top processes q p = groups_bottom processes (q - 1) + (1 + length (subjects (p - 1) q)) * row_height

  -- how many pairs of processes have no row
  unfoldable pub left_out : (processes : ℕ) → ℕ
  left_out processes =
      sum_by (λ q. length (filter (λ p. not (has_row q p)) (others processes q))) (numbers_to processes)

-- letters: each process has a room, with place above its row for a text of each other process
abbrev pub lane_height : (processes : ℕ) → ℕ
lane_height processes = processes * 9 + 36

-- where the rooms end
unfoldable pub lanes_bottom : (processes : ℕ) → ℕ
lanes_bottom processes = head_room + processes * lane_height processes

-- where the row of process q begins, through whose middle its line goes
unfoldable pub own_top : (processes q : ℕ) → ℕ
own_top processes q = head_room + (q - 1) * lane_height processes + processes * 9

abbrev pub line_of : (processes q : ℕ) → ℕ
line_of processes q = own_top processes q + 8

-- the height after so many of all parts of the way from one height to another, rounded down in the length of the way
unfoldable pub on_way : (y z part whole : ℕ) → ℕ
on_way y z part whole = if nat_le y z then y + ((z - y) * part) / whole else y - ((y - z) * part) / whole

-- a text, wherever it stands
abbrev pub said : Class → List ℕ → Shape
said class text = shape.Text class (point 0 0) anchor.Start text

abbrev pub without_place : Shape → Shape
without_place (shape.Text class at anchor text) = said class text
without_place s = s

-- shapes, but for the places of their texts
unfoldable pub placeless : List Shape → List Shape
placeless shapes = map without_place shapes

-- how far down a shape goes
abbrev pub lowest : Shape → ℕ
lowest (shape.Rect class corner width height) = corner.y + height
lowest (shape.Line class from to) = max from.y to.y
lowest (shape.Arrow class from to) = max from.y to.y
lowest (shape.Stub class from to) = max from.y to.y
lowest (shape.Disc class center radius) = center.y + radius
lowest (shape.Cross class center) = center.y
lowest (shape.Text class at anchor text) = 0

abbrev pub is_of_axis : Shape → Bool
is_of_axis (shape.Line class.Axis from to) = true
is_of_axis (shape.Line class.Grid from to) = true
is_of_axis s = false

-- these are no marks: they are texts, lines of the axis, or samples, which stand above all rows
abbrev pub are_frame : List Shape → Bool
are_frame shapes = list_all (λ s. is_of_axis s || nat_lt (lowest s) head_room) shapes

-- where some are left out, a text ends in how many
abbrev pub Tells : (count : ℕ) → List Shape → Type 0
Tells count shapes = (count ≡ 0)
    ⊎ ((words : List ℕ) × Contains (placeless shapes) (said class.Label (words ++ (codes ": " ++ decimal count))))

-- the text is a picture that has these bands and, over them, just these marks, whose texts may stand anywhere. It is
-- large enough for ticks and rows, and tells how many are left out
pub record IsPicture (bottom count : ℕ) (bands marks : List Shape) (text : List ℕ) : Type 0 where
  pub width : ℕ
  pub height : ℕ
  pub wide : left_room + axis_width ≤ width
  pub high : bottom ≤ height
  pub head : List Shape
  pub axis : List Shape
  pub shapes : List Shape
  pub head_is : are_frame head ≡ true
  pub axis_is : are_frame axis ≡ true
  pub tells : Tells count head
  pub marks_are : placeless shapes ≡ marks
  pub document : IsDocument width height (head ++ (bands ++ (axis ++ shapes))) text
