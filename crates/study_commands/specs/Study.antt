-- Which study the words of a command line say.
use Rattle.std.specs.{Prelude.{◌≡◌, ℕ, List, map, Option, Some, None, option_map}, List.{AllZip}}
use Rattle.study.specs.{AxisWords.{SaysAxis}, Grid.{GridRecord, NoneApplies, grid_of, ShardRecord}, Words.{seeds_said, Word, shard_said}, declared.axis.Axis.{Axis}}
use Rattle.study_line.specs.declared.order.{Each.{Each}, GridTexts.{GridTexts}, StudyTexts.{StudyTexts}}
use Rattle.study_line.specs.declared.order.Each.TheVariants as each
use Rattle.sweep.specs.{GroupWords.{SaysGroup}, Groups.{groups_of}, Layout.{ArePicks, LayoutRecord}, StudyText.{names_of}, declared.{group.PairGroup.{PairGroup}, layout.Rows.{Rows}}}
use Rattle.sweep.specs.declared.layout.Rows.TheVariants as rows

-- the grid has the axes and the seeds that its words say, and nothing speaks against it
pub record IsGrid (words : GridTexts) (g : GridRecord) : Type 0 where
  pub vary : List Axis
  pub over : List Axis
  pub deal : List Axis
  pub seeds : ℕ × ℕ
  pub says_vary : AllZip SaysAxis (map (λ w. w.now) words.vary.items) vary
  pub says_over : AllZip SaysAxis (map (λ w. w.now) words.over.items) over
  pub says_deal : AllZip SaysAxis (map (λ w. w.now) words.deal.items) deal
  pub says_seeds : seeds_said words.seeds.now ≡ Some seeds
  pub allowed : NoneApplies vary over deal seeds.0 seeds.1
  pub grid_is : g ≡ grid_of vary over deal seeds.0 seeds.1

-- the shard is the one that a word says, and all points where there is no word
abbrev pub IsShardOf : Option Word → ShardRecord → Type 0
IsShardOf None s = s ≡ record { number = 1; of = 1 }
IsShardOf (Some word) s = shard_said word ≡ Some s

-- what a study's words say of its grid, and of its shard
abbrev pub shard_word : StudyTexts → Option Word
shard_word study = option_map (λ w. w.now) study.shard

-- and of the columns of its table
abbrev pub columns_word : StudyTexts → Option Word
columns_word study = option_map (λ w. w.now) study.columns

-- and of the groups of pairs that have rows of their own
abbrev pub pairs_words : StudyTexts → List Word
pairs_words study = map (λ w. w.now) study.pairs.items

-- the rows tell of points or of runs, as the word says
abbrev pub rows_for : Each → Rows
rows_for each.Point = rows.Points
rows_for each.Run = rows.Runs

-- the layout has such rows for the groups that words say, with the columns that a word names, or all without one
pub record IsLayout (kind : Each) (pairs : List Word) (columns : Option Word) (g : GridRecord) (l : LayoutRecord)
    : Type 0 where
  pub rows_are : l.rows ≡ rows_for kind
  pub groups : List PairGroup
  pub says_groups : AllZip SaysGroup pairs groups
  pub groups_are : l.groups ≡ groups_of groups
  pub picks_are : ArePicks (names_of (rows_for kind) (groups_of groups) g) columns l.picks
