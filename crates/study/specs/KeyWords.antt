-- Which words say which keys of a study's files.
use Rattle.std.specs.{Prelude.{◌≡◌, ◌≢◌, ◌⊎◌, List, [], ℕ, ◌≤◌, ◌<◌, ◌^◌, ◌∷◌, ◌++◌, length, Bool, true, false, not, ◌&&◌, ◌||◌, ◌==◌, codes, decimal}, Char.{is_ascii_alphanumeric}, List.{list_all}}
use Rattle.study.specs.{Settings.{FilePath, top, inner, element, every, Path, scenario, network, key_text}, Words.{Word}, declared.error.KeyError.{KeyError}}
use Rattle.study.specs.declared.error.KeyError.TheVariants as error

-- a letter, a digit, `_` or `-`
abbrev pub is_name_byte : ℕ → Bool
is_name_byte c = is_ascii_alphanumeric c || (c == 95 || c == 45)

-- such bytes, at least one: a key that needs no quotes in TOML
abbrev pub is_name : Word → Bool
is_name w = not (length w == 0) && list_all is_name_byte w

-- a place that stands before a closing bracket, and no place stands before one
abbrev pub IsPlaceOf : Word → ℕ → Type 0
IsPlaceOf w place = (1 ≤ place) × (place < 2 ^ 64) × (w ≡ decimal place ++ codes "]")

-- what may stand after an array's bracket
abbrev pub IsPlace : Word → Type 0
IsPlace w = ((place : ℕ) × IsPlaceOf w place) ⊎ (w ≡ codes "*]")

-- its parts are names, and its table is one that an array can have
abbrev pub HasFileNames : FilePath → Type 0
HasFileNames (top k) = is_name k ≡ true
HasFileNames (inner t k) = (is_name t ≡ true) × (is_name k ≡ true)
HasFileNames (element a place k) = (is_name a ≡ true) × (1 ≤ place) × (place < 2 ^ 64) × (is_name k ≡ true)
HasFileNames (every a k) = (is_name a ≡ true) × (is_name k ≡ true)

-- it stands in a table of an array of tables
abbrev pub IsInArray : FilePath → Type 0
IsInArray (element a place k) = Unit {0}
IsInArray (every a k) = Unit {0}
IsInArray _ = ⊥

-- all keys of a network's file stand in tables of arrays
abbrev pub HasNames : Path → Type 0
HasNames (scenario p) = HasFileNames p
HasNames (network p) = IsInArray p × HasFileNames p

-- the word says a key: it's the key as it is written, and isn't `seed`
pub record SaysKey (w : Word) (p : Path) : Type 0 where
  pub text : w ≡ key_text p
  pub names : HasNames p
  pub no_seed : w ≢ codes "seed"

-- why a word says no key
abbrev pub SaysNoKey : Word → KeyError → Type 0
SaysNoKey w error.Seed = w ≡ codes "seed"
SaysNoKey w error.NoKey = (p : Path) → HasNames p → w ≢ key_text p
SaysNoKey w (error.Memory m) = Unit {0}

-- why some words don't all say keys: the reason of the first that says none
abbrev pub SayNoKeys : List Word → KeyError → Type 0
SayNoKeys [] e = ⊥
SayNoKeys (w ∷ ws) e = SaysNoKey w e ⊎ (((p : Path) × SaysKey w p) × SayNoKeys ws e)

abbrev pub is_memory : KeyError → Bool
is_memory (error.Memory m) = true
is_memory _ = false
