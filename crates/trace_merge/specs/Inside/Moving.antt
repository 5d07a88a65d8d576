-- Entries that are moved from parts to a list.
use Rattle.std.specs.{Prelude.{List, ◌++◌, map}, List.Sorted.{IsPermutation}}
use Rattle.{process_api.specs.Order.{EntryRecord}, trace_merge.specs.Parts.{all_of}}

-- the entries of a list and of what is left of parts are those of the list and of what is left of the parts later
abbrev pub HaveMoved : {X : Type 0} (left : X → List EntryRecord) (before : List EntryRecord) (old : List X)
    (after : List EntryRecord) (new : List X) → Type 0
HaveMoved left before old after new = IsPermutation (before ++ all_of (map left old)) (after ++ all_of (map left new))
