-- Why words of a study are refused.
use Rattle.std.specs.{Prelude.{◌≡◌, ◌⊎◌, ◌<◌, ℕ, List, map, Bool, true, false, nat_le, Option, Some}, List.{AllZip, Contains}}
use Rattle.diagnosis.specs.Diagnosis.{edits, most_edits}
use Rattle.study.specs.{AxisWords.{SaysAxis, SaysNoAxis, is_memory as is_axis_memory}, Grid.{GridRecord, IsFirst, set_twice, is_memory as is_grid_memory}, Words.{seeds_fault, seeds_said, Word, shard_fault, shard_said}}
use Rattle.study.specs.{SetWords.{SaysAssignment, SaysNoAssignment, is_memory as is_set_memory}, Settings.{Path}}
use Rattle.study.specs.declared.{assignment.Assignment.{Assignment}, axis.Axis.{Axis}, error.{AssignmentError.{AssignmentError}, AxisError.{AxisError}, GridError.{GridError}, SeedsError.{SeedsError}, ShardError.{ShardError}}}
use Rattle.{study_commands.specs.{File.{NameInputTwice, paths_set, set_words}, Study.{rows_for}}, study_line.specs.declared.order.{Each.{Each}, GridTexts.{GridTexts}, SourceTexts.{SourceTexts}}}
use Rattle.sweep.specs.{GroupWords.{SaysGroup, SaysNoGroup}, Groups.{groups_of}, Layout.{IsNoLayout}, StudyText.{names_of}, declared.{error.{GroupError.{GroupError}, LayoutError.{LayoutError}}, group.PairGroup.{PairGroup}}}
use Rattle.sweep.specs.declared.error.GroupError.TheVariants as group
use Rattle.sweep.specs.declared.error.LayoutError.TheVariants as layout

abbrev pub is_layout_memory : LayoutError → Bool
is_layout_memory layout.Memory = true
is_layout_memory _ = false

-- one of the words says no axis, for a reason other than memory
pub record HasNoAxis (words : List Word) : Type 0 where
  pub word : Word
  pub there : Contains words word
  pub reason : AxisError
  pub other : is_axis_memory reason ≡ false
  pub says : SaysNoAxis word reason

pub record SaysNoSeeds (word : Word) : Type 0 where
  pub reason : SeedsError
  pub is : seeds_fault (seeds_said word) ≡ Some reason

-- the words say axes and seeds that make no grid
pub record MakeNoGrid (words : GridTexts) : Type 0 where
  pub vary : List Axis
  pub over : List Axis
  pub deal : List Axis
  pub seeds : ℕ × ℕ
  pub says_vary : AllZip SaysAxis (map (λ w. w.now) words.vary.items) vary
  pub says_over : AllZip SaysAxis (map (λ w. w.now) words.over.items) over
  pub says_deal : AllZip SaysAxis (map (λ w. w.now) words.deal.items) deal
  pub says_seeds : seeds_said words.seeds.now ≡ Some seeds
  pub reason : GridError
  pub other : is_grid_memory reason ≡ false
  pub first : IsFirst vary over deal seeds.0 seeds.1 reason

abbrev pub SaysNoGrid : GridTexts → Type 0
SaysNoGrid words = HasNoAxis (map (λ w. w.now) words.vary.items) ⊎ (HasNoAxis (map (λ w. w.now) words.over.items)
    ⊎ (HasNoAxis (map (λ w. w.now) words.deal.items) ⊎ (SaysNoSeeds words.seeds.now ⊎ MakeNoGrid words)))

-- there is a word, and it says no shard
pub record SaysNoShard (word : Option Word) : Type 0 where
  pub text : Word
  pub there : word ≡ Some text
  pub reason : ShardError
  pub is : shard_fault (shard_said text) ≡ Some reason

abbrev pub is_group_memory : GroupError → Bool
is_group_memory group.Memory = true
is_group_memory _ = false

-- one of the words says no group of pairs, for a reason other than memory
pub record HasNoGroup (words : List Word) : Type 0 where
  pub word : Word
  pub there : Contains words word
  pub reason : GroupError
  pub other : is_group_memory reason ≡ false
  pub says : SaysNoGroup word reason

-- there is a word that names a column which rows of this kind, for these groups, don't have
pub record LacksColumn (kind : Each) (groups : List PairGroup) (columns : Option Word) (grid : GridRecord)
    : Type 0 where
  pub reason : LayoutError
  pub other : is_layout_memory reason ≡ false
  pub is : IsNoLayout (names_of (rows_for kind) (groups_of groups) grid) columns reason

-- the words say no groups of pairs, or groups for whose rows a column is named that they don't have
abbrev pub SaysNoLayout : Each → (pairs : List Word) → (columns : Option Word) → GridRecord → Type 0
SaysNoLayout kind pairs columns grid = HasNoGroup pairs
    ⊎ ((groups : List PairGroup) × AllZip SaysGroup pairs groups × LacksColumn kind groups columns grid)

-- a name is perhaps meant by a word that names no column
abbrev pub is_like : (word name : Word) → Bool
is_like word name = nat_le (edits word name) (most_edits word)

-- one of the words sets no key, for a reason other than memory
pub record HasNoAssignment (words : List Word) : Type 0 where
  pub word : Word
  pub there : Contains words word
  pub reason : AssignmentError
  pub other : is_set_memory reason ≡ false
  pub says : SaysNoAssignment word reason

-- a key is set twice, or an axis sets it
abbrev pub IsSetTwice : GridRecord → List Assignment → Type 0
IsSetTwice g assigned = (key : Path) × (set_twice g (paths_set assigned) ≡ Some key)

-- words do so
pub record SetTwice (words : List Word) (g : GridRecord) : Type 0 where
  pub assigned : List Assignment
  pub say : AllZip SaysAssignment words assigned
  pub is : IsSetTwice g assigned

-- the words that name files and set keys are refused
abbrev pub SaysNoSources : SourceTexts → GridRecord → Type 0
SaysNoSources texts g = HasNoAssignment (set_words texts) ⊎ (SetTwice (set_words texts) g ⊎ NameInputTwice texts)

-- a number that counts from 1 isn't among so many
abbrev pub IsOutside : (number count : ℕ) → Type 0
IsOutside number count = (number ≡ 0) ⊎ (count < number)
