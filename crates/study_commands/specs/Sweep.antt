-- What `sweep` answers.
use Rattle.{std.specs.Prelude.{ℕ, List, take, Option}, study.specs.{Sources.{SourcesRecord}, Grid.{GridRecord, ShardRecord}}}
use Rattle.{study_commands.specs.{File.{AreSources}, Study.{IsGrid, IsLayout, IsShardOf, columns_word, pairs_words, shard_word}}, study_line.specs.declared.order.{SourceTexts.{SourceTexts}, StudyTexts.{StudyTexts}}}
use Rattle.sweep.specs.{Layout.{LayoutRecord}, StudyText.{IsStudyText, IsTextOf, units_of}}

-- the study that words say of the files, and the layout of its rows
module _ (input : Option (List ℕ)) (texts : SourceTexts) (study : StudyTexts) where
  pub record IsSaid (sources : SourcesRecord) (grid : GridRecord) (shard : ShardRecord)
      (layout : LayoutRecord) : Type 0 where
    pub are_sources : AreSources input texts grid sources
    pub is_grid : IsGrid study.grid grid
    pub is_shard : IsShardOf (shard_word study) shard
    pub is_layout : IsLayout study.each (pairs_words study) (columns_word study) grid layout

  -- the piece is the text of the study: of its shard's points, where a shard is named
  pub record IsSweepAnswer (piece : List ℕ) : Type 0 where
    pub sources : SourcesRecord
    pub grid : GridRecord
    pub shard : ShardRecord
    pub layout : LayoutRecord
    pub said : IsSaid sources grid shard layout
    pub text : IsStudyText sources grid shard layout piece

  -- the piece has the rows of the first of these points, or of their runs, and no others
  pub record IsSweepFront (piece : List ℕ) : Type 0 where
    pub sources : SourcesRecord
    pub grid : GridRecord
    pub shard : ShardRecord
    pub layout : LayoutRecord
    pub said : IsSaid sources grid shard layout
    pub count : ℕ
    pub text : IsTextOf sources grid shard layout (take count (units_of layout.rows grid shard)) piece
