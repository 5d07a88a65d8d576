-- Texts as they are printed.
use Rattle.std.specs.{Prelude.{ℕ, List, [], ◌∷◌, ◌++◌, ◌==◌, Bool, true, false, if◌then◌else◌, codes}, Char.{encode_utf8, is_control}, Fmt.{digits}, List.{flat_map}, Str.{chars}}

-- a character; a control character by its number, as `\u{1b}`
abbrev pub shown : ℕ → List ℕ
shown c = if is_control c then codes "\\u{" ++ digits 16 false c ++ codes "}" else encode_utf8 c

-- the end of a line, or another character
abbrev pub shown_in_lines : ℕ → List ℕ
shown_in_lines c = if c == 10 then 10 ∷ [] else shown c

abbrev pub shown_as : (in_lines : Bool) → ℕ → List ℕ
shown_as true = shown_in_lines
shown_as false = shown

-- a text on one line, without control characters
unfoldable pub printable : List ℕ → List ℕ
printable text = flat_map shown (chars text)

-- a text in its lines, each of them so
unfoldable pub printable_lines : List ℕ → List ℕ
printable_lines text = flat_map shown_in_lines (chars text)
