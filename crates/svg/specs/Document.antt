-- A picture as a document: shapes as elements of SVG, a line each; texts in XML 1.0, a space for a control character.
use Rattle.std.specs.Prelude.{◌≡◌, ℕ, List, [], ◌∷◌, ◌++◌, flat_map, codes, decimal, nat_lt, ◌==◌, if◌then◌else◌}
use Rattle.svg.specs.declared.{shape.{Shape.{Shape}, Anchor.{Anchor}, Point.{Point}}, class.Class.{Class}}
use Rattle.svg.specs.declared.class.Class.TheVariants as class
use Rattle.svg.specs.declared.shape.Anchor.TheVariants as anchor
use Rattle.svg.specs.declared.shape.Shape.TheVariants as shape

-- what a byte is written as: 38 is `&`, 60 and 62 `<` and `>`, 34 and 39 the quotation mark and the apostrophe
abbrev pub written : ℕ → List ℕ
written byte = if byte == 38 then codes "&amp;"
    else if byte == 60 then codes "&lt;"
    else if byte == 62 then codes "&gt;"
    else if byte == 34 then codes "&quot;"
    else if byte == 39 then codes "&apos;"
    else if nat_lt byte 32 then codes " "
    else byte ∷ []

-- a text as it stands between marks: each byte in turn
abbrev pub escaped : List ℕ → List ℕ
escaped text = flat_map written text

abbrev pub class_name : Class → List ℕ
class_name class.Title = codes "title"
class_name class.Label = codes "label"
class_name class.Remark = codes "remark"
class_name class.Axis = codes "axis"
class_name class.Grid = codes "grid"
class_name class.Life = codes "life"
class_name class.First = codes "first"
class_name class.Second = codes "second"
class_name class.Outage = codes "outage"
class_name class.Crash = codes "crash"
class_name class.Decision = codes "decision"
class_name class.Detector = codes "detector"
class_name class.Reduction = codes "reduction"
class_name class.Consensus = codes "consensus"
class_name class.Lost = codes "lost"
class_name class.Dead = codes "dead"
class_name class.Late = codes "late"

abbrev pub anchor_name : Anchor → List ℕ
anchor_name anchor.Start = codes "start"
anchor_name anchor.Middle = codes "middle"
anchor_name anchor.End = codes "end"

-- an attribute that is a number, as ` x="12"`
abbrev pub attribute : (List ℕ × ℕ) → List ℕ
attribute a = codes " " ++ (a.0 ++ (codes "=\"" ++ (decimal a.1 ++ codes "\"")))

-- the beginning of an element, as `<rect class="first" x="12"`
abbrev pub opening : (start : List ℕ) → Class → (numbers : List (List ℕ × ℕ)) → List ℕ
opening start class numbers =
    start ++ (codes " class=\"" ++ (class_name class ++ (codes "\"" ++ flat_map attribute numbers)))

-- an element with nothing in it
abbrev pub element : (start : List ℕ) → Class → (numbers : List (List ℕ × ℕ)) → List ℕ
element start class numbers = opening start class numbers ++ codes "/>\n"

-- an element from one point to another
abbrev pub line_text : (start : List ℕ) → Class → (from to : Point) → List ℕ
line_text start class from to = element start class
    ((codes "x1", from.x) ∷ (codes "y1", from.y) ∷ (codes "x2", to.x) ∷ (codes "y2", to.y) ∷ [])

-- heads and crosses are drawn once in each document, and are referred to
abbrev pub shape_text : Shape → List ℕ
shape_text (shape.Rect class corner width height) = element (codes "<rect") class
    ((codes "x", corner.x) ∷ (codes "y", corner.y) ∷ (codes "width", width) ∷ (codes "height", height) ∷ [])
shape_text (shape.Line class from to) = line_text (codes "<line") class from to
shape_text (shape.Arrow class from to) = line_text (codes "<line marker-end=\"url(#head)\"") class from to
shape_text (shape.Stub class from to) = line_text (codes "<line marker-end=\"url(#stop)\"") class from to
shape_text (shape.Disc class center radius) =
    element (codes "<circle") class ((codes "cx", center.x) ∷ (codes "cy", center.y) ∷ (codes "r", radius) ∷ [])
shape_text (shape.Cross class center) =
    element (codes "<use href=\"#cross\"") class ((codes "x", center.x) ∷ (codes "y", center.y) ∷ [])
shape_text (shape.Text class at anchor caption) =
    opening (codes "<text") class ((codes "x", at.x) ∷ (codes "y", at.y) ∷ [])
    ++ (codes " text-anchor=\"" ++ (anchor_name anchor ++ (codes "\">" ++ (escaped caption ++ codes "</text>\n"))))

-- its size in user units
abbrev pub view_box_text : (width height : ℕ) → List ℕ
view_box_text width height = codes " viewBox=\"0 0 " ++ (decimal width ++ (codes " " ++ (decimal height ++ codes "\"")))

-- what stands before the shapes: the size, also in pixels unless whoever shows it says another, and a style sheet
abbrev pub head_text : (style : List ℕ) (width height : ℕ) → List ℕ
head_text style width height = codes "<svg xmlns=\"http://www.w3.org/2000/svg\" role=\"img\""
    ++ (view_box_text width height
    ++ (flat_map attribute ((codes "width", width) ∷ (codes "height", height) ∷ []) ++ (codes ">\n" ++ style)))

-- the text is a head, the shapes in their order, and the end. It isn't said how its style sheet paints each class
pub record IsDocument (width height : ℕ) (shapes : List Shape) (text : List ℕ) : Type 0 where
  pub style : List ℕ
  pub text_is : text ≡ head_text style width height ++ (flat_map shape_text shapes ++ codes "</svg>\n")
