-- Keys of a study's files, and what they are set to.
use Rattle.std.specs.{Prelude.{ℕ, ℤ, List, ◌++◌, map, codes, string_bytes, decimal}, Fmt.{signed_decimal}, Global.{Vec}, List.{zip}}
use Rattle.study.specs.declared.{file_key.FileKey.{FileKey}, key.Key.{Key}, setting.Setting.{Setting}, axis.{Axis.{Axis}, Choice.{Choice}}}
use Rattle.study.specs.declared.file_key.FileKey.TheVariants as file_key
use Rattle.study.specs.declared.key.Key.TheVariants as key
use Rattle.study.specs.declared.setting.Setting.TheVariants as setting

-- where a key stands in a file
pub data FilePath : Type 0 where
  -- in the top table
  top : (key : List ℕ) → FilePath
  -- in a table of the top table
  inner : (table key : List ℕ) → FilePath
  -- in a table of an array of tables; the first is 1
  element : (array : List ℕ) (place : ℕ) (key : List ℕ) → FilePath
  -- in every table of an array of tables
  every : (array key : List ℕ) → FilePath

-- where a key stands: in the scenario's file, or in the network's
pub data Path : Type 0 where
  scenario : FilePath → Path
  network : FilePath → Path

abbrev pub file_path_of : FileKey → FilePath
file_path_of (file_key.Top k) = top (string_bytes k)
file_path_of (file_key.Inner t k) = inner (string_bytes t) (string_bytes k)
file_path_of (file_key.Element a place k) = element (string_bytes a) place (string_bytes k)
file_path_of (file_key.Every a k) = every (string_bytes a) (string_bytes k)

abbrev pub path_of : Key → Path
path_of (key.Scenario k) = scenario (file_path_of k)
path_of (key.Network k) = network (file_path_of k)

-- a key of a file as it is written: horizon, detector.timeout, crash[1].at, crash[*].at
abbrev pub file_key_text : FilePath → List ℕ
file_key_text (top k) = k
file_key_text (inner t k) = t ++ codes "." ++ k
file_key_text (element a place k) = a ++ codes "[" ++ decimal place ++ codes "]." ++ k
file_key_text (every a k) = a ++ codes "[*]." ++ k

-- a key as it is written: one of the network's file as network.bursts[1].gap, network.bursts[*].gap
abbrev pub key_text : Path → List ℕ
key_text (scenario p) = file_key_text p
key_text (network p) = codes "network." ++ file_key_text p

-- what a key is set to
pub data Given : Type 0 where
  number : ℤ → Given
  text : List ℕ → Given

abbrev pub given_by : Setting → Given
given_by (setting.Integer z) = number z
given_by (setting.Text s) = text (string_bytes s)

-- what some keys are set to
abbrev pub settings_in : Vec Setting → List Given
settings_in v = map given_by v.items

-- what a key is set to as it is written: an integer in decimal, a text as it stands
abbrev pub given_text : Given → List ℕ
given_text (number z) = signed_decimal z
given_text (text s) = s

-- a key with one value
pub record Chosen : Type 0 where
  pub path : Path
  pub value : Given

-- some keys with a value each, in their order
abbrev pub set_to : List Path → List Given → List Chosen
set_to paths givens = map (λ p. record { path = p.0; value = p.1 }) (zip paths givens)

-- the choices of an axis, in order: all its keys, with one of its values
abbrev pub choices : Axis → List (List Chosen)
choices a = map (λ v. set_to (map path_of a.keys.items) (settings_in v)) a.values.items

-- one of them, in the code
abbrev pub chosen : Choice → Chosen
chosen c = record { path = path_of c.key.now; value = given_by c.value.now }
