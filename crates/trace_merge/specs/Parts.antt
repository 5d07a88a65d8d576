-- Parts of a trace, and what they hold together.
use Rattle.std.specs.{Prelude.{◌≢◌, Bool, List, [], ◌∷◌, ◌++◌, IsTrue}, List.{AllByRecursion, IsDistinct, Sorted.{IsPermutation, IsSortedByKey}}, Ordering.{eq_by_cmp}}
use Rattle.process_api.specs.Order.{EntryRecord, is_rising, key_cmp}

abbrev pub all_of : List (List EntryRecord) → List EntryRecord
all_of [] = []
all_of (part ∷ parts) = part ++ all_of parts

-- no key is in both lists
abbrev pub AreApart : List EntryRecord → List EntryRecord → Type 0
AreApart xs ys = AllByRecursion (λ x. AllByRecursion (λ y. x.key ≢ y.key) ys) xs

-- no key is in two parts
abbrev pub AreDisjoint : List (List EntryRecord) → Type 0
AreDisjoint [] = Unit {0}
AreDisjoint (part ∷ parts) = AreApart part (all_of parts) × AreDisjoint parts

-- the entries of these parts, in the order of their keys
pub record IsMergeOf (parts : List (List EntryRecord)) (merged : List EntryRecord) : Type 0 where
  pub rising : IsTrue (is_rising merged)
  pub same : IsPermutation (all_of parts) merged

-- no key is less than the one before it
abbrev pub IsInOrder : List EntryRecord → Type 0
IsInOrder es = IsSortedByKey (λ e. e.key) key_cmp es

-- two entries have one key
abbrev pub same : EntryRecord → EntryRecord → Bool
same a b = eq_by_cmp key_cmp a.key b.key

-- no two have
abbrev pub AllDiffer : List EntryRecord → Type 0
AllDiffer es = IsDistinct same es
