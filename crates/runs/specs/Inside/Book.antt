-- A book of letters, as they are heard of.
use Rattle.std.specs.Prelude.{◌≡◌, List, ◌++◌, map}
use Rattle.{steps.specs.Posting.{Posted}, trace_laws.specs.Setting.{setting_of}, runs.specs.{Letters.{letter_of}, declared.book.LetterBook.{LetterBook}}}

-- the one book is the other with these letters at its end
pub record HasHeard (old : LetterBook) (posted : List Posted) (new : LetterBook) : Type 0 where
  pub scenario : new.scenario ≡ old.scenario
  pub letters : new.letters.items ≡ old.letters.items ++ map (letter_of (setting_of old.scenario.now)) posted
