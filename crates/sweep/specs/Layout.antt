-- What the rows of a study's text tell of, its columns, and the text: a line that names the columns, and rows.
use Rattle.std.specs.Prelude.{◌≡◌, ℕ, ◌≤◌, ◌==◌, List, ◌∷◌, ◌++◌, map, length, Option, None, Some, IsSome, string_bytes, if◌then◌else◌, is_some, [], get_or, decimal}
use Rattle.{std.specs.List.{All, Contains, position, range_with_len, slice_split, AllZip, flat_map, list_any}, csv.specs.Writing.{default_writer, row_text}, diagnosis.specs.Diagnosis.{edits}, scenario.specs.Table.{same_text}}
use Rattle.sweep.specs.{ColumnTable.{numbers_of}, Columns.{AreColumns}, Groups.{group_word}, Results.{Trial}, declared.{error.LayoutError.{LayoutError}, group.Group.{Group}, layout.Rows.{Rows}, columns.Columns.{Columns}}}
use Rattle.sweep.specs.declared.error.LayoutError.TheVariants as error

abbrev pub Text : Type 0
Text = List ℕ

-- a line of comma-separated fields, ended by a line feed. A field with a comma, a quote or a line's end stands between
-- quotes, each quote in it doubled (RFC 4180); any other field stands as it is
abbrev pub line_text : List Text → Text
line_text fields = row_text default_writer fields

-- the fields at these places, from 0
abbrev pub picked : (places : List ℕ) → List Text → List Text
picked places fields = map (λ place. get_or fields place []) places

-- nothing where there is none
abbrev pub number_text : Option ℕ → Text
number_text None = []
number_text (Some n) = decimal n

-- the first line: those of all names that are picked
unfoldable pub header_text : (picks : List ℕ) (names : List Text) → Text
header_text picks names = line_text (picked picks names)

-- all fields of a row on a layer: its lead, which says what it tells of, its group's word and the columns
abbrev pub layer_fields : (lead : List Text) → Group → (layer : ℕ) → Columns → List Text
layer_fields lead group layer c = lead ++ (group_word group ++ map number_text (numbers_of layer c))

-- the row: those of them that are picked
unfoldable pub layer_text : (picks : List ℕ) (lead : List Text) → Group → (layer : ℕ) → Columns → Text
layer_text picks lead group layer c = line_text (picked picks (layer_fields lead group layer c))

module _ (picks : List ℕ) (lead : List Text) where
  -- a group's rows of these runs, numbered from the first on: of layer 1, and of layer 2 where some run has a reduction
  pub record AreRowsOfGroup (first : ℕ) (trials : List Trial) (group : Group) (rows : Text) : Type 0 where
    pub one : Columns
    pub two : Columns
    pub on_first : AreColumns group 1 first trials one
    pub on_second : AreColumns group 2 first trials two
    pub text : rows ≡ layer_text picks lead group 1 one
        ++ (if list_any (λ t. is_some t.scenario.share) trials then layer_text picks lead group 2 two else [])

  -- those of these groups, one after the other
  pub record AreRowsFor (groups : List Group) (first : ℕ) (trials : List Trial) (rows : Text) : Type 0 where
    pub parts : List Text
    pub each : AllZip (AreRowsOfGroup first trials) groups parts
    pub text_is : rows ≡ flat_map (λ part. part) parts

pub record LayoutRecord : Type 0 where
  -- what a row tells of
  pub rows : Rows
  -- which pairs rows count: a unit has rows of each of these groups
  pub groups : List Group
  -- the places of its fields among those of all columns, from 0
  pub picks : List ℕ

-- the place of the first column of this name, if there is one
abbrev pub place_of : (names : List Text) → Text → Option ℕ
place_of names name = position (same_text name) names

-- the names between commas
abbrev pub between_commas : Text → List Text
between_commas columns = slice_split (λ b. b == 44) columns

-- the places of the columns that are named, in this order; of all where none is
abbrev pub ArePicks : (names : List Text) → Option Text → List ℕ → Type 0
ArePicks names None picks = picks ≡ range_with_len 0 (length names)
ArePicks names (Some columns) picks = map (place_of names) (between_commas columns) ≡ map Some picks

-- none of the names is nearer to the word
pub record IsNearest (names : List Text) (word near : Text) : Type 0 where
  pub name : Contains names near
  pub nearest : (other : Text) → Contains names other → edits word near ≤ edits word other

-- the first of the words that is no name, and one of the nearest names
pub record IsUnknown (names words : List Text) (word near : Text) : Type 0 where
  pub before : List Text
  pub after : List Text
  pub words_are : words ≡ before ++ word ∷ after
  pub known : All (λ w. IsSome (place_of names w)) before
  pub unknown : place_of names word ≡ None
  pub near_is : IsNearest names word near

-- the error says of the word that it is no name
abbrev pub TellsOf : (names : List Text) (word : Text) → LayoutError → Type 0
TellsOf names word (error.Unknown name nearest) =
    (string_bytes name ≡ word) × IsNearest names word (string_bytes nearest)
TellsOf names word error.Memory = ⊥

-- why words name no columns
abbrev pub IsRefusal : (names words : List Text) → LayoutError → Type 0
IsRefusal names words (error.Unknown name nearest) = IsUnknown names words (string_bytes name) (string_bytes nearest)
IsRefusal names words error.Memory = Unit {0}

-- why there is no layout
abbrev pub IsNoLayout : (names : List Text) → Option Text → LayoutError → Type 0
IsNoLayout names None e = e ≡ error.Memory
IsNoLayout names (Some columns) e = IsRefusal names (between_commas columns) e
