-- What the files have at a path, and what setting a path changes.
use Rattle.std.specs.{Prelude.{◌≡◌, ◌≢◌, ◌⊎◌, ℕ, zero, suc, List, Option, Some, None, MatchOption, Ok}, Option.{option_and_then}}
use Rattle.{toml.specs.Data.{Data, array, table, Items, Members, get_member, get_item}, study.specs.{Settings.{FilePath, top, inner, element, every, Path, scenario, network}, Sources.{SourcesRecord}, Placed.{set_at}}}

-- the value at a key of a table, if it is one
abbrev pub in_table : List ℕ → Option Data → Option Data
in_table k (Some (table ms)) = get_member k ms
in_table k _ = None

-- what stands at a place of items, from 1
abbrev pub at_place : ℕ → Items → Option Data
at_place zero ds = None
at_place (suc i) ds = get_item i ds

-- what stands at a place of an array, if it is one
abbrev pub in_array : ℕ → Option Data → Option Data
in_array place (Some (array ds)) = at_place place ds
in_array place _ = None

-- ---- in a file

-- the value at a path. In every table of an array there are many
abbrev pub value_in_file : FilePath → Members → Option Data
value_in_file (top k) t = get_member k t
value_in_file (inner name k) t = in_table k (get_member name t)
value_in_file (element name place k) t = in_table k (in_array place (get_member name t))
value_in_file (every name k) t = None

-- the value is what is read at the path, or in every table of the array
abbrev pub IsReadInFile : FilePath → Data → Members → Type 0
IsReadInFile (every name k) d t = (place : ℕ) (there : Data) → in_array place (get_member name t) ≡ Some there
    → value_in_file (element name place k) t ≡ Some d
IsReadInFile path d t = value_in_file path t ≡ Some d

-- the key of the top table below which a path stands
abbrev pub first_key : FilePath → List ℕ
first_key (top k) = k
first_key (inner name k) = name
first_key (element name place k) = name
first_key (every name k) = name

-- below one key of the top table, two paths that stand beside one another
abbrev pub AreBeside : FilePath → FilePath → Type 0
AreBeside (inner name k) (inner other l) = (name ≡ other) × (k ≢ l)
AreBeside (element name place k) (element other at l) = (name ≡ other) × ((place ≢ at) ⊎ ((place ≡ at) × (k ≢ l)))
AreBeside (every name k) (element other at l) = (name ≡ other) × (k ≢ l)
AreBeside _ _ = ⊥

-- neither is the other, nor stands below it
abbrev pub AreApartInFile : FilePath → FilePath → Type 0
AreApartInFile path other = (first_key path ≢ first_key other) ⊎ AreBeside path other

-- ---- in the files of a study

abbrev pub value_at : Path → SourcesRecord → Option Data
value_at (scenario p) s = value_in_file p s.scenario
value_at (network p) s = option_and_then (value_in_file p) s.network

-- the value is what is read at the path, or in every table of the array
abbrev pub IsRead : Path → Data → SourcesRecord → Type 0
IsRead (scenario p) d s = IsReadInFile p d s.scenario
IsRead (network p) d s = MatchOption s.network ⊥ (IsReadInFile p d)

-- they stand in two files, or apart in one
abbrev pub AreApart : Path → Path → Type 0
AreApart (scenario p) (scenario q) = AreApartInFile p q
AreApart (network p) (network q) = AreApartInFile p q
AreApart _ _ = Unit {0}

-- the files have the value at the path, and at every path apart from that what they had
pub record Sets (path : Path) (d : Data) (old new : SourcesRecord) : Type 0 where
  pub read : IsRead path d new
  pub others : (other : Path) → AreApart path other → value_at other new ≡ value_at other old

-- so it is wherever a path can be set
abbrev pub AreSet : Type 0
AreSet = (path : Path) (d : Data) (old new : SourcesRecord) → set_at path d old ≡ Ok new → Sets path d old new
