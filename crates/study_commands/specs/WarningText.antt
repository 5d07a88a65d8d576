-- Lines of warnings, and who is told them.
use Rattle.std.specs.{Prelude.{ℕ, ◌+◌, codes, decimal, List, [], ◌∷◌, ◌++◌, map, length, option_map, option_to_list, ◌≡◌, ◌⊎◌, Option, None, Some}, List.{AllZip}}
use Rattle.{printable.specs.Printable.{printable}, scenario_record.specs.Record.{Record}, study.specs.{Grid.{GridRecord, ShardRecord}, Settings.{Chosen, given_text, key_text}, Sources.{SourcesRecord}}}
use Rattle.study_commands.specs.{Warnings.{IsFirst, Warning, late, lates, outages, unevens, unused, warnings}, declared.{late.Late.{Late}, spread.Spread.{Spread}}, File.{IsScenario}, Sweep.{IsSaid}}
use Rattle.{sweep.specs.{StudyText.{numbers_of, point_at}, Layout.{LayoutRecord}, Outcome.{HeardLimits}}, toml.specs.Data.{Members}}
use Rattle.study_line.specs.{Order.{AsksHelp, AsksVersion, States}, declared.order.{Order.{Order}, SourceTexts.{SourceTexts}, StudyTexts.{StudyTexts}}}
use Rattle.study_line.specs.declared.order.Order.TheVariants as order
use Rattle.trace_laws.specs.Taken.{HaveJoined}

-- a key and what it is set to, after this
abbrev pub choice_text : (before : List ℕ) → Chosen → List ℕ
choice_text before c = before ++ (key_text c.path ++ (codes "=" ++ given_text c.value))

-- keys and what they are set to, this before the first of them
abbrev pub choices_text : (before : List ℕ) → List Chosen → List ℕ
choices_text before [] = []
choices_text before (c ∷ cs) = choice_text before c ++ choices_text (codes ", ") cs

-- a point, counted from 0, as `point 2 with detector.timeout=8, link.loss=0`, and without any settings as `point 1`
abbrev pub point_name : GridRecord → (point : ℕ) → List ℕ
point_name g point = codes "point " ++ (decimal (point + 1) ++ choices_text (codes " with ") (point_at g point))

-- from which tick on it could suspect, and where the run ends
abbrev pub late_text : Late → List ℕ
late_text its =
    codes "from tick " ++ (decimal its.from ++ (codes " on, horizon " ++ (decimal its.horizon ++ codes "\n")))

abbrev pub lone_late_line : Late → List ℕ
lone_late_line its = codes "fdstudy: no detector can suspect anybody before the horizon: " ++ late_text its

-- how many different phases there are, of which period, with which greatest gap
abbrev pub spread_text : Spread → List ℕ
spread_text its = decimal its.phases ++ (codes " different phases of the period " ++ (decimal its.period
    ++ (codes ", with a gap of " ++ (decimal its.gap ++ codes " ticks"))))

-- that each pair of so many processes has a link of its own
abbrev pub pairs_text : (processes : ℕ) → List ℕ
pairs_text processes =
    codes "each pair of " ++ (decimal processes ++ codes " processes has a table of its own in links\n")

-- at how many of so many points, and at which first
abbrev pub points_text : GridRecord → (of points first : ℕ) → List ℕ
points_text g of points first =
    decimal points ++ (codes " of " ++ (decimal of ++ (codes " points, first at " ++ printable (point_name g first))))

module _ (g : GridRecord) (of : ℕ) where
  abbrev pub warning_line : Warning → List ℕ
  warning_line (lates its) = codes "fdstudy: no detector can suspect anybody before the horizon at "
      ++ (points_text g of its.points its.first ++ (codes ": " ++ late_text its.what))
  warning_line (unevens key its) =
      codes "fdstudy: " ++ (printable (key_text key) ++ (codes " is dealt " ++ (spread_text its.what
      ++ (codes ", at " ++ (points_text g of its.points its.first ++ codes "\n")))))
  warning_line (unused key its) = codes "fdstudy: no link uses " ++ (printable (key_text key) ++ (codes " at "
      ++ (points_text g of its.points its.first ++ (codes ": " ++ pairs_text its.what))))
  warning_line outages = codes "fdstudy: at each point every run has the same outages of the scenario file, "
      ++ codes "so runs are no independent evidence of them\n"

module _ {W : Type 0} (warned : W → List (List ℕ) → W → Type 0) (old new : W) where
  -- of the scenario, if there is anything to warn of
  abbrev pub IsWarnedOf : Record → Type 0
  IsWarnedOf s = HaveJoined warned old new (option_to_list (option_map lone_late_line (late s)))

  -- of the study: its lines, one after the other, and nothing else
  pub record IsWarnedOfStudy (sources : SourcesRecord) (g : GridRecord) (shard : ShardRecord) : Type 0 where
    pub tables : List Members
    pub each : AllZip (IsFirst sources g) (numbers_of g shard) tables
    pub told : HaveJoined warned old new (map (warning_line g (length (numbers_of g shard)))
        (warnings (numbers_of g shard) tables sources g))

-- a watcher is told of the scenario of the files, and of nothing else
pub record IsToldOfFile {W : Type 0} (warned : W → List (List ℕ) → W → Type 0) (old new : W)
    (input : Option (List ℕ)) (texts : SourceTexts) : Type 0 where
  pub scenario : Record
  pub is_scenario : IsScenario input texts scenario
  pub told : IsWarnedOf warned old new scenario

module _ {W : Type 0} (heard : W → List (ℕ × ℕ) → W → Type 0) (warned : W → List (List ℕ) → W → Type 0) where
  -- it hears of no limit, and is told of the study then
  pub record IsToldAfterReading (old new : W) (sources : SourcesRecord) (g : GridRecord) (shard : ShardRecord)
      : Type 0 where
    pub read : W
    pub reading : HaveJoined heard old read []
    pub told : IsWarnedOfStudy warned read new sources g shard

  module _ (old new : W) (input : Option (List ℕ)) (texts : SourceTexts) where
    module _ (study : StudyTexts) where
      -- of the study that words say of the files
      pub record IsToldOfCheck : Type 0 where
        pub sources : SourcesRecord
        pub grid : GridRecord
        pub shard : ShardRecord
        pub layout : LayoutRecord
        pub said : IsSaid input texts study sources grid shard layout
        pub told : IsToldAfterReading old new sources grid shard

      -- and where it is swept it hears after that of each point of which runs passed their limit
      pub record IsToldOfSweep : Type 0 where
        pub sources : SourcesRecord
        pub grid : GridRecord
        pub shard : ShardRecord
        pub layout : LayoutRecord
        pub said : IsSaid input texts study sources grid shard layout
        pub begun : W
        pub told : IsToldAfterReading old begun sources grid shard
        pub running : HeardLimits heard begun new sources grid (numbers_of grid shard)

    abbrev pub IsToldOfChecked : Option StudyTexts → Type 0
    IsToldOfChecked None = IsToldOfFile warned old new input texts
    IsToldOfChecked (Some study) = IsToldOfCheck study

  module _ (old new : W) (input : Option (List ℕ)) where
    -- what it hears and is told for an order: of `letters`, `draw` and `show` nothing
    abbrev pub IsTold : Order → Type 0
    IsTold (order.Check texts study) = IsToldOfChecked old new input texts study
    IsTold (order.Sweep texts study) = IsToldOfSweep old new input texts study
    IsTold _ = new ≡ old

    -- and for words: where they ask for help or for the version nothing
    abbrev pub IsToldFor : (words : List (List ℕ)) → Type 0
    IsToldFor words = ((asked : Order) × States words asked × IsTold asked)
        ⊎ ((AsksHelp words ⊎ AsksVersion words) × (new ≡ old))
