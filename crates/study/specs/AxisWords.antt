-- Which words say which axes.
use Rattle.std.specs.Prelude.{◌≡◌, ℕ, ◌+◌, ◌-◌, ◌*◌, ◌/◌, nat_lt, ℤ, pos, unsigned_abs, int_lt, ◌+ℤ◌, ◌-ℤ◌, List, [], ◌∷◌, ◌++◌, map, length, Bool, true, false, not, ◌&&◌, ◌==◌, codes, Option, Some, None, if◌then◌else◌}
use Rattle.std.specs.{List.{flat_map, range_with_len, AllZip}, Option.{option_and_then, option_or}}
use Rattle.study.specs.{KeyWords.{SaysKey, SayNoKeys, is_memory as is_key_memory}, Settings.{Path, Given, number, text, path_of, settings_in}, Words.{Word, has, before, after, between, is_integer, integer, fits, bounds}}
use Rattle.study.specs.declared.{axis.Axis.{Axis}, error.{AxisError.{AxisError}, KeyError.{KeyError}}}
use Rattle.study.specs.declared.error.AxisError.TheVariants as error

pub record RangeRecord : Type 0 where
  pub low : ℤ
  pub high : ℤ
  pub step : ℤ

-- of B or B:STEP; the step is 1 where none is said
abbrev pub high_word : Word → Word
high_word w = before 58 w

abbrev pub step_word : Word → Word
step_word w = if has 58 w then after 58 w else codes "1"

-- the range from A up to B or B:STEP, where these are integers
abbrev pub range_between : Word × Word → Option RangeRecord
range_between ends = if is_integer ends.0 && (is_integer (high_word ends.1) && is_integer (step_word ends.1))
    then Some (record { low = integer ends.0; high = integer (high_word ends.1); step = integer (step_word ends.1) })
    else None

-- the range that a word says: A..=B or A..=B:STEP
abbrev pub range_said : Word → Option RangeRecord
range_said w = option_and_then range_between (bounds w)

-- how many steps there are from A to B
abbrev pub steps : RangeRecord → ℕ
steps r = unsigned_abs (r.high -ℤ r.low) / unsigned_abs r.step

-- the number after k steps
abbrev pub number_after : RangeRecord → ℕ → ℤ
number_after r k = r.low +ℤ pos (k * unsigned_abs r.step)

-- what a value says of one key
pub data Piece : Type 0 where
  one : ℤ → Piece
  range : RangeRecord → Piece
  word : Word → Piece

-- the range if there is one, and else the word
abbrev pub range_or : Option RangeRecord → Word → Piece
range_or None w = word w
range_or (Some r) w = range r

-- an integer, a range, or else a text
abbrev pub piece_said : Word → Piece
piece_said w = if is_integer w then one (integer w) else range_or (range_said w) w

-- what a piece stands for: of a range A, A + STEP, .. up to B
abbrev pub values : Piece → List Given
values (one z) = number z ∷ []
values (range r) = map (λ k. number (number_after r k)) (range_with_len 0 (steps r + 1))
values (word w) = text w ∷ []

abbrev pub range_fault : RangeRecord → Option AxisError
range_fault r = if not (fits r.low && (fits r.high && fits r.step)) then Some error.NumberTooLarge
    else if int_lt r.step (pos 1) then Some error.StepTooLow
    else if int_lt r.high r.low then Some error.EmptyRange
    else None

abbrev pub piece_fault : Piece → Option AxisError
piece_fault (one z) = if fits z then None else Some error.NumberTooLarge
piece_fault (range r) = range_fault r
piece_fault (word []) = Some error.NoValue
piece_fault (word (c ∷ cs)) = None

-- why it's refused as a part of a value of tied keys, which is one value
abbrev pub part_fault : Piece → Option AxisError
part_fault (one z) = piece_fault (one z)
part_fault (range r) = Some error.TiedRange
part_fault (word w) = piece_fault (word w)

-- why the first of some parts that is refused is
abbrev pub parts_fault : List Piece → Option AxisError
parts_fault [] = None
parts_fault (p ∷ ps) = option_or (part_fault p) (parts_fault ps)

-- what a value says of all keys of an axis
pub data Entry : Type 0 where
  single : Piece → Entry
  -- the parts for so many keys, set together
  tied : (keys : ℕ) → List Piece → Entry

-- of one key the piece; of several the pieces between colons
abbrev pub entry_said : (keys : ℕ) → Word → Entry
entry_said keys w = if keys == 1 then single (piece_said w) else tied keys (map piece_said (between 58 w))

-- what an entry stands for: one setting for each key, once or, of a range, many times
abbrev pub rows : Entry → List (List Given)
rows (single p) = map (λ v. v ∷ []) (values p)
rows (tied keys ps) = flat_map values ps ∷ []

abbrev pub entry_fault : Entry → Option AxisError
entry_fault (single p) = piece_fault p
entry_fault (tied keys ps) = if length ps == keys then parts_fault ps else Some error.PartsPerKey

-- why it's refused where there's room for so many values
abbrev pub fault_within : (room : ℕ) → Entry → Option AxisError
fault_within room e =
    option_or (entry_fault e) (if nat_lt room (length (rows e)) then Some error.TooManyValues else None)

-- why the first of some entries that is refused is
unfoldable pub first_fault : (room : ℕ) → List Entry → Option AxisError
first_fault room [] = None
first_fault room (e ∷ es) = option_or (fault_within room e) (first_fault (room - length (rows e)) es)

-- one more entry, whose values stand after those that are there
pub record Adds (old new : List (List Given)) (e : Entry) : Type 0 where
  pub no_fault : fault_within (1000000 - length old) e ≡ None
  pub rows : new ≡ old ++ rows e

-- the entries of some words
abbrev pub entries_said : (keys : ℕ) → List Word → List Entry
entries_said keys = map (entry_said keys)

-- the entries between commas
abbrev pub entries : (keys : ℕ) → Word → List Entry
entries keys w = entries_said keys (between 44 w)

-- the words say the axis: its keys between commas before the first `=`, and its values after it
pub record SaysAxis (words : Word) (a : Axis) : Type 0 where
  pub equals : has 61 words ≡ true
  pub keys : AllZip SaysKey (between 44 (before 61 words)) (map path_of a.keys.items)
  pub no_fault : first_fault 1000000 (entries (length a.keys.items) (after 61 words)) ≡ None
  pub values : map settings_in a.values.items ≡ flat_map rows (entries (length a.keys.items) (after 61 words))

-- why words say no axis: there is no `=`; why the first word before it that says no key doesn't; or else why the first
-- of the values that is refused is
pub data SaysNoAxis (words : Word) : AxisError → Type 0 where
  no_equals : has 61 words ≡ false → SaysNoAxis words error.NoEquals
  no_key : {e : KeyError} → has 61 words ≡ true → SayNoKeys (between 44 (before 61 words)) e
      → SaysNoAxis words (error.Key e)
  no_values : {e : AxisError} (paths : List Path) → has 61 words ≡ true
      → AllZip SaysKey (between 44 (before 61 words)) paths
      → first_fault 1000000 (entries (length paths) (after 61 words)) ≡ Some e → SaysNoAxis words e

abbrev pub is_memory : AxisError → Bool
is_memory (error.Key e) = is_key_memory e
is_memory (error.Memory m) = true
is_memory _ = false

-- the error says that memory was refused, or it is the fault of the words
abbrev pub IsFault : Option AxisError → AxisError → Type 0
IsFault fault e = is_memory e ≡ false → fault ≡ Some e
