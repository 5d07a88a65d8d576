-- Fields that stand in a row as they are.
use Rattle.std.specs.Prelude.{◌≡◌, ℕ, List, [], ◌∷◌, false}
use Rattle.csv.specs.Writing.{default_writer, needs_quotes}

-- it calls for no quotes: it has no comma, no quote and no end of a line
abbrev pub IsPlain : List ℕ → Type 0
IsPlain field = needs_quotes default_writer field ≡ false

-- none of them does
abbrev pub ArePlain : List (List ℕ) → Type 0
ArePlain [] = Unit {0}
ArePlain (x ∷ xs) = IsPlain x × ArePlain xs
