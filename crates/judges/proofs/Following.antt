-- Whoever follows a trace, told of one more entry.
use Rattle.judges.proofs.{Words.{ℕ, List, [], ◌∷◌, ◌++◌, EntryRecord, Record}, Order.{before_one, rising_front}}
use Rattle.judges.specs.Pairs.{AreUntil, HasFollowed}

pub next_followed : {F : Type 0} (fed : Record → ℕ → List EntryRecord → F → Type 0) (old new : F) (entry : EntryRecord)
    → ((S : Record) (layer : ℕ) (trace : List EntryRecord) → fed S layer trace old → AreUntil trace entry.key.tick → fed S layer (trace ++ entry ∷ []) new)
    → (first : F) (told : List EntryRecord) → HasFollowed fed first old told → HasFollowed fed first new (told ++ entry ∷ [])
next_followed fed old new entry step first told was = λ S layer opened rises.
    step S layer told (was S layer opened (rising_front told (entry ∷ []) rises)) (before_one told entry [] rises)
