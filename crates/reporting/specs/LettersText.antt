-- The text of letters: a line that names the columns, and a row for each letter.
use Rattle.std.specs.{Prelude.{ℕ, Option, None, Some, List, [], ◌∷◌, ◌++◌, codes, decimal}, List.{flat_map}}
use Rattle.reporting.specs.{Rows.{kind_text, row_of}, ReportText.{Text}, declared.letter.{Letter.{Letter}, LetterFate.{LetterFate}}}
use Rattle.reporting.specs.declared.letter.LetterFate.TheVariants as fate

abbrev pub fate_text : LetterFate → Text
fate_text fate.Taken = codes "taken"
fate_text fate.Lost = codes "lost"
fate_text fate.Dead = codes "dead"
fate_text fate.Late = codes "late"

-- nothing where there is none
abbrev pub number_text : Option ℕ → Text
number_text None = []
number_text (Some n) = decimal n

-- the first line: the names of the columns
unfoldable pub letters_header : Text
letters_header = codes "sent,sender,receiver,number,kind,due,fate\n"

-- the fields of a letter's row
abbrev pub fields_of : Letter → List Text
fields_of l =
    decimal l.sent ∷ decimal l.sender ∷ decimal l.receiver ∷ decimal l.number ∷ kind_text l.kind ∷ number_text l.due
    ∷ fate_text l.fate ∷ []

-- a row for each letter
abbrev pub rows_text : List Letter → Text
rows_text letters = flat_map (λ l. row_of (fields_of l)) letters

-- the first line, and the rows
unfoldable pub letters_text : List Letter → Text
letters_text letters = letters_header ++ rows_text letters
