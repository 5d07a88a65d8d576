-- Words of private functions.
use Rattle.std.specs.Prelude.{Some, ◌≡◌, true, Ok, ◌≢◌, ◌⊎◌, ℕ, ◌≤◌, ◌<◌, ◌^◌, ◌∷◌, ◌++◌, slice_index, Bool, not, ◌&&◌, ◌==◌, codes, decimal, List}
use Rattle.study.specs.{Words.{natural, Word, is_natural, seeds_said}, Settings.{FilePath, file_key_text}, declared.{error.PlaceError.{PlaceError}, extent.Extent.{Extent}, laid_run.LaidRun.{LaidRun}}, Placed.{IsRefused, set_in_file, Table}}
use Rattle.study.specs.{Reading.{value_in_file, IsReadInFile, AreApartInFile}, KeyWords.{IsPlace, is_name, HasFileNames, IsInArray}, Laid.{horizon_of, seed_of, is_run, with_tables}}
use Rattle.{toml.specs.{Data.{Data, Members, array, table}, View.{table_view, items_of}}, scenario.specs.{Drawn.{put, with_outages}, Text.{processes_of}}}

pub record IsExtentOf (t : Members) (e : Extent) : Type 0 where
  pub is_run : is_run t ≡ true
  pub processes : e.processes ≡ processes_of t
  pub horizon : e.horizon ≡ horizon_of t
  pub seed : e.seed ≡ seed_of t

-- what is asked of the code: whatever the values are changed to, the table stays; or these are changed
abbrev pub StaysAsItIs : (key : List ℕ) → Members → Type 0
StaysAsItIs key t = (change : List Data → List Data) → with_tables key change t ≡ t

abbrev pub HasValues : (key : List ℕ) → List Data → Members → Type 0
HasValues key ds t =
    (change : List Data → List Data) → with_tables key change t ≡ put key (array (items_of (change ds))) t

-- the table that is laid, by the one over which links are laid and the outages that are drawn
abbrev pub table_of_laid : LaidRun → Members
table_of_laid r = with_outages r.outages.items (table_view r.table)

-- a natural number from 1, with no 0 in front
abbrev pub is_place : Word → Bool
is_place w = not (slice_index w 0 == 48) && is_natural w

abbrev pub HasNoPlace : Word → Type 0
HasNoPlace w = (place : ℕ) → 1 ≤ place → place < 2 ^ 64 → w ≢ decimal place ++ codes "]"

-- what may stand before a key's dot: an array's name with the place of a table, or with a star for all, in brackets
pub record IsListed (w : Word) : Type 0 where
  pub array : Word
  pub place : Word
  pub named : is_name array ≡ true
  pub placed : IsPlace place
  pub text : w ≡ array ++ (91 ∷ place)

-- or a table's name
abbrev pub IsOwner : Word → Type 0
IsOwner w = (is_name w ≡ true) ⊎ IsListed w

-- what stands after `network.` in a key of the network's file
abbrev pub IsNetworkText : Word → Type 0
IsNetworkText w = (p : FilePath) × (IsInArray p × (HasFileNames p × (w ≡ file_key_text p)))

-- the file has the value at the path, and at every path apart from that what it had
pub record SetsInFile (path : FilePath) (d : Data) (old new : Members) : Type 0 where
  pub read : IsReadInFile path d new
  pub others : (other : FilePath) → AreApartInFile path other → value_in_file other new ≡ value_in_file other old

-- with the value at the path the one table is the other
abbrev pub Puts : FilePath → Data → (old new : Table) → Type 0
Puts path d old new = set_in_file path d (table_view old) ≡ Ok (table_view new)

-- the error says that memory was refused, or why the table can't have the value at the path
abbrev pub CannotPut : FilePath → Data → Table → PlaceError → Type 0
CannotPut path d old = IsRefused (set_in_file path d (table_view old))

-- the words of the first seed and the last
pub record AreEnds (w first last : Word) : Type 0 where
  pub first_natural : is_natural first ≡ true
  pub last_natural : is_natural last ≡ true
  pub said : seeds_said w ≡ Some (natural first, natural last)
