-- Groups of pairs of processes: which pairs a row counts.
use Rattle.std.specs.{Prelude.{ℕ, ◌&&◌, ◌||◌, Bool, true, false, nat_le, nat_lt, if◌then◌else◌, Option, List, [], ◌∷◌, map, codes, string_bytes}, List.{list_any, position}}
use Rattle.sweep.specs.declared.group.{Group.{Group, TheVariants.{All, Said}}, PairBlock.{PairBlock}, PairGroup.{PairGroup}, Processes.{Processes}}

-- a process is among those from a first to a last
abbrev pub is_among : Processes → ℕ → Bool
is_among processes p = nat_le processes.first p && nat_le p processes.last

-- a block has each pair of one of its observers and one of its subjects
abbrev pub is_of_block : (q p : ℕ) → PairBlock → Bool
is_of_block q p block = is_among block.observers q && is_among block.subjects p

-- whether the pair of observer q and subject p is of the group: of one of the blocks that its word says, or of more
abbrev pub has_pair : PairGroup → (q p : ℕ) → Bool
has_pair group q p = list_any (is_of_block q p) group.blocks.items

abbrev pub is_in : Group → (q p : ℕ) → Bool
is_in All q p = true
is_in (Said group) q p = has_pair group q p

-- whether the group names a process above n
abbrev pub is_block_above : (n : ℕ) → PairBlock → Bool
is_block_above n block = nat_lt n block.observers.last || nat_lt n block.subjects.last

abbrev pub names_above : (n : ℕ) → PairGroup → Bool
names_above n group = list_any (is_block_above n) group.blocks.items

abbrev pub is_above : (n : ℕ) → Group → Bool
is_above n All = false
is_above n (Said group) = names_above n group

-- the place of the first group that does, from 0, if there is one
abbrev pub first_above : (n : ℕ) → List Group → Option ℕ
first_above n groups = position (is_above n) groups

-- the groups of which rows tell: that of all pairs, where no other is said
abbrev pub groups_of : List PairGroup → List Group
groups_of [] = All ∷ []
groups_of (group ∷ groups) = Said group ∷ map Said groups

-- where groups are said, rows have their words in a column of this name
abbrev pub is_said : Group → Bool
is_said All = false
is_said (Said group) = true

abbrev pub group_names : List Group → List (List ℕ)
group_names groups = if list_any is_said groups then codes "pairs" ∷ [] else []

abbrev pub group_word : Group → List (List ℕ)
group_word All = []
group_word (Said group) = string_bytes group.word ∷ []
