-- Which words set which keys to which values, for all runs.
use Rattle.std.specs.Prelude.{◌≡◌, ◌≢◌, [], Bool, true, false, unwrap_or}
use Rattle.{toml.specs.{Data.{Data, string}, Parse.{parse_value}, View.{view}}, study.specs.{KeyWords.{SaysKey, SaysNoKey, is_memory as is_key_memory}, Settings.{Path, path_of}, Words.{Word, has, before, after}}}
use Rattle.study.specs.declared.{assignment.Assignment.{Assignment}, error.{AssignmentError.{AssignmentError}, KeyError.{KeyError}}}
use Rattle.study.specs.declared.error.AssignmentError.TheVariants as error

-- what TOML reads as one value; and else the word, as a text
abbrev pub value_said : Word → Data
value_said w = unwrap_or (parse_value w) (string w)

-- the words say the key and its value: what stands before the first `=`, and what after it
pub record SaysAssignment (words : Word) (a : Assignment) : Type 0 where
  pub equals : has 61 words ≡ true
  pub key : SaysKey (before 61 words) (path_of a.key)
  pub some : after 61 words ≢ []
  pub value : view a.value ≡ value_said (after 61 words)

-- why words say none: there is no `=`; no key stands before it; or else nothing stands after it
pub data SaysNoAssignment (words : Word) : AssignmentError → Type 0 where
  no_equals : has 61 words ≡ false → SaysNoAssignment words error.NoEquals
  no_key : {e : KeyError} → has 61 words ≡ true → SaysNoKey (before 61 words) e → SaysNoAssignment words (error.Key e)
  no_value : (key : Path) → has 61 words ≡ true → SaysKey (before 61 words) key → after 61 words ≡ []
      → SaysNoAssignment words error.NoValue

abbrev pub is_memory : AssignmentError → Bool
is_memory (error.Key e) = is_key_memory e
is_memory (error.Memory m) = true
is_memory _ = false
