-- The text of a study: rows that tell what became of all runs, of those of a point together or of each alone.
use Rattle.std.specs.{Prelude.{◌≡◌, ◌==◌, ℕ, ◌+◌, ◌*◌, ◌/◌, ◌%◌, if◌then◌else◌, List, [], ◌∷◌, ◌++◌, length, map, get_or, codes, decimal, false}, List.{AllZip, flat_map, range_with_len}}
use Rattle.csv.specs.Writing.{default_writer, writer_setup, fields_written, has_written, writer_under, writer_pending}
use Rattle.study.specs.{Sources.{SourcesRecord}, Settings.{Path, Chosen, key_text, given_text}, Grid.{GridRecord, RunRecord, points, keys, runs, ShardRecord, block}, Placed.{sources_of_run}, Laid.{IsScenarioOf}}
use Rattle.sweep.specs.{ColumnTable.{column_names}, Groups.{group_names}, Layout.{LayoutRecord, Text, header_text, AreRowsFor}, Results.{Trial, IsResult}, Sums.{AreUnitSums}}
use Rattle.sweep.specs.declared.{group.Group.{Group}, layout.Rows.{Rows}, table.Table.{Table}, unit_sums.UnitSums.{UnitSums}}
use Rattle.sweep.specs.declared.layout.Rows.TheVariants as kind

-- what became of a run of a point: its scenario is that of the files with the settings of both
pub record IsTrialOf (sources : SourcesRecord) (settings : List Chosen) (run : RunRecord) (t : Trial) : Type 0 where
  pub scenario : IsScenarioOf (sources_of_run settings run sources) t.scenario
  pub result : IsResult t.scenario t.result

-- the settings of the point of this number, from 0
abbrev pub point_at : GridRecord → ℕ → List Chosen
point_at g number = get_or (points g) number []

-- the run of this number, from 0; what stands for a number that is too high is never asked for
abbrev pub run_at : GridRecord → ℕ → RunRecord
run_at g number = get_or (runs g) number (record { settings = []; seed = 0 })

-- the numbers of a shard's points
abbrev pub numbers_of : GridRecord → ShardRecord → List ℕ
numbers_of g shard = block (range_with_len 0 (length (points g))) shard

-- ---- units, of which rows tell, numbered from 0: the points; or the runs, those of one point after the other

-- the units of points
abbrev pub units_in : Rows → GridRecord → (points : List ℕ) → List ℕ
units_in kind.Points g points = points
units_in kind.Runs g points = flat_map (λ point. range_with_len (point * length (runs g)) (length (runs g))) points

abbrev pub units_of : Rows → GridRecord → ShardRecord → List ℕ
units_of rows g shard = units_in rows g (numbers_of g shard)

-- a unit's point, and the runs of the point that its rows tell of
abbrev pub unit_point : Rows → GridRecord → (unit : ℕ) → ℕ
unit_point kind.Points g point = point
unit_point kind.Runs g run = run / length (runs g)

abbrev pub unit_runs : Rows → GridRecord → (unit : ℕ) → List RunRecord
unit_runs kind.Points g point = runs g
unit_runs kind.Runs g run = run_at g (run % length (runs g)) ∷ []

-- the number of the first of these among the point's runs, from 1
abbrev pub unit_first : Rows → GridRecord → (unit : ℕ) → ℕ
unit_first kind.Points g point = 1
unit_first kind.Runs g run = run % length (runs g) + 1

-- ---- what a row begins with: what varied keys are set to; of a run also its own keys, its seed and its number

abbrev pub values : List Chosen → List Text
values settings = map (λ s. given_text s.value) settings

abbrev pub run_lead : (point : List Chosen) → RunRecord → (number : ℕ) → List Text
run_lead point run number = values point ++ values run.settings ++ decimal run.seed ∷ decimal number ∷ []

abbrev pub lead_of : Rows → GridRecord → (unit : ℕ) → List Text
lead_of kind.Points g point = values (point_at g point)
lead_of kind.Runs g run =
    run_lead (point_at g (unit_point kind.Runs g run)) (run_at g (run % length (runs g))) (unit_first kind.Runs g run)

-- the keys that runs set, in order: those of the first
abbrev pub run_keys : GridRecord → List Path
run_keys g = map (λ c. c.path) (run_at g 0).settings

-- the names of all columns
abbrev pub lead_names : Rows → GridRecord → List Text
lead_names kind.Points g = map key_text (keys g)
lead_names kind.Runs g = map key_text (keys g) ++ map key_text (run_keys g) ++ codes "seed" ∷ codes "run" ∷ []

abbrev pub names_of : Rows → List Group → GridRecord → List Text
names_of rows groups g = lead_names rows g ++ (group_names groups ++ column_names)

-- ---- the text

-- the first shard begins with the header
abbrev pub header_of : GridRecord → ShardRecord → LayoutRecord → Text
header_of g shard layout =
    if shard.number == 1 then header_text layout.picks (names_of layout.rows layout.groups g) else []

module _ (sources : SourcesRecord) (g : GridRecord) (layout : LayoutRecord) where
  -- the rows of a point tell of all its runs, those of a run of it alone
  pub record AreRowsOf (unit : ℕ) (rows : Text) : Type 0 where
    pub trials : List Trial
    pub each : AllZip (IsTrialOf sources (point_at g (unit_point layout.rows g unit)))
        (unit_runs layout.rows g unit) trials
    pub told : AreRowsFor layout.picks (lead_of layout.rows g unit) layout.groups (unit_first layout.rows g unit)
        trials rows

  -- the rows of these points or runs, one after the other
  pub record HasRowsOf (units : List ℕ) (text : Text) : Type 0 where
    pub parts : List Text
    pub each : AllZip AreRowsOf units parts
    pub text_is : text ≡ flat_map (λ rows. rows) parts

module _ (sources : SourcesRecord) (g : GridRecord) (shard : ShardRecord) (layout : LayoutRecord) where
  -- a shard's text with the rows of these
  pub record IsTextOf (units : List ℕ) (text : Text) : Type 0 where
    pub rows : Text
    pub has : HasRowsOf sources g layout units rows
    pub text_is : text ≡ header_of g shard layout ++ rows

  -- the text of a shard has the rows of all its points, or of all their runs
  abbrev pub IsStudyText : Text → Type 0
  IsStudyText text = IsTextOf (units_of layout.rows g shard) text

  -- there is at most one text, however the work was shared out among threads
  abbrev pub HasOneText : Type 0
  HasOneText = (a b : Text) → IsStudyText a → IsStudyText b → a ≡ b

-- the texts of so many shards, one after the other, are the text of the whole
abbrev pub ShardsMakeWhole : SourcesRecord → GridRecord → LayoutRecord → ℕ → Type 0
ShardsMakeWhole sources g layout of = (texts : List Text)
    → AllZip (λ number text. IsStudyText sources g (record { number = number; of = of }) layout text)
    (range_with_len 1 of) texts
    → IsStudyText sources g (record { number = 1; of = 1 }) layout (flat_map (λ text. text) texts)

-- no line is half written
pub record IsBetweenLines (t : Table) : Type 0 where
  pub setup : writer_setup t.writer ≡ default_writer
  pub fields : fields_written t.writer ≡ 0
  pub wrote : has_written t.writer ≡ false

-- what was written so far
abbrev pub text_of : Table → List ℕ
text_of t = (writer_under t.writer).items ++ writer_pending t.writer

abbrev pub AddsRowsOfSums : LayoutRecord → GridRecord → (unit : ℕ) → List Group → UnitSums → (old new : Table) → Type 0
AddsRowsOfSums layout g unit groups sums old new = (first : ℕ) (trials : List Trial)
    → AreUnitSums layout.groups first trials sums
    → (rows : Text) × AreRowsFor layout.picks (lead_of layout.rows g unit) groups first trials rows
    × (text_of new ≡ text_of old ++ rows)
