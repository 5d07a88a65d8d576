-- What a sweep leaves of an outlet.
use Rattle.std.specs.{Prelude.{◌≡◌, ◌⊎◌, ◌<◌, ℕ, false, take, length, List, Option, None, Some, Contains, ◌==◌, not}, List.{AllZip, count_by, filter}}
use Rattle.study.specs.{Sources.{SourcesRecord, sources_of}, Grid.{GridRecord, runs, ShardRecord}, Placed.{sources_of_run}, Laid.{IsScenarioOf, IsRefusedFor, is_memory}, declared.error.ReadError.{ReadError}}
use Rattle.{reporting.specs.Outlet.{Wrote, WrotePart, WroteNothing}, scenario_record.specs.Record.{Record}, trace_laws.specs.Taken.{HaveJoined}}
use Rattle.sweep.specs.{Groups.{first_above}, Layout.{LayoutRecord, Text}, StudyText.{point_at, run_at, numbers_of, units_of, IsTextOf, IsStudyText, IsTrialOf}, Columns.{is_limited}, Results.{Trial}}
use Rattle.sweep.specs.declared.{error.SweepError.{SweepError}, group.Group.{Group}, swept_study.SweptStudy.{SweptStudy}}
use Rattle.sweep.specs.declared.error.SweepError.TheVariants as error

-- what a word says of the study that is swept
abbrev pub of_swept : {X : Type 1} → SweptStudy → (SourcesRecord → GridRecord → ShardRecord → LayoutRecord → X) → X
of_swept study word = word (sources_of study.sources.now) study.grid.now study.shard study.layout.now

-- runs stand in the order of their points, and those of a point in their own
abbrev pub IsBefore : (p r point run : ℕ) → Type 0
IsBefore p r point run = (p < point) ⊎ ((p ≡ point) × (r < run))

-- it says that a run can't be run
abbrev pub RefusesRun : SweepError → Type 0
RefusesRun (error.Refused point run reason) = Unit {0}
RefusesRun (error.NoSuchProcess point run group processes) = Unit {0}
RefusesRun error.Memory = ⊥
RefusesRun error.Write = ⊥

module _ (sources : SourcesRecord) (g : GridRecord) where
  -- the run of a point has no scenario, for this reason
  pub record IsRefused (point run : ℕ) (reason : ReadError) : Type 0 where
    pub reason_is : IsRefusedFor (sources_of_run (point_at g point) (run_at g run) sources) reason
    pub no_memory : is_memory reason ≡ false

  module _ (groups : List Group) where
    -- a run can be run: it has a scenario, and no group names a process that the scenario doesn't have
    pub record IsReady (point run : ℕ) : Type 0 where
      pub scenario : Record
      pub is_scenario : IsScenarioOf (sources_of_run (point_at g point) (run_at g run) sources) scenario
      pub none_above : first_above scenario.processes groups ≡ None

    -- it has a scenario of so many processes, and the group at this place, from 0, is the first that names one above
    pub record LacksProcess (point run group processes : ℕ) : Type 0 where
      pub scenario : Record
      pub is_scenario : IsScenarioOf (sources_of_run (point_at g point) (run_at g run) sources) scenario
      pub processes_are : processes ≡ scenario.processes
      pub first : first_above scenario.processes groups ≡ Some group

    -- why it can't be run
    abbrev pub CantRun : (point run : ℕ) → SweepError → Type 0
    CantRun point run (error.Refused p r reason) = (p ≡ point) × (r ≡ run) × IsRefused point run reason
    CantRun point run (error.NoSuchProcess p r group processes) =
        (p ≡ point) × (r ≡ run) × LacksProcess point run group processes
    CantRun point run error.Memory = ⊥
    CantRun point run error.Write = ⊥

    module _ (shard : ShardRecord) where
      -- this one is the first of the shard's runs that can't be run
      pub record IsFirstUnready (point run : ℕ) (e : SweepError) : Type 0 where
        pub point_in : Contains (numbers_of g shard) point
        pub run_in : run < length (runs g)
        pub cant_run : CantRun point run e
        pub before : (p r : ℕ) → Contains (numbers_of g shard) p → r < length (runs g) → IsBefore p r point run
            → IsReady p r

      -- each of the shard's runs can be run
      abbrev pub AreReady : Type 0
      AreReady = (p r : ℕ) → Contains (numbers_of g shard) p → r < length (runs g) → IsReady p r

      -- why they can't: one can't be run, or memory was refused
      abbrev pub CantBeRun : SweepError → Type 0
      CantBeRun (error.Refused point run reason) = IsFirstUnready point run (error.Refused point run reason)
      CantBeRun (error.NoSuchProcess point run group processes) =
          IsFirstUnready point run (error.NoSuchProcess point run group processes)
      CantBeRun error.Memory = Unit {0}
      CantBeRun error.Write = ⊥

  module _ (shard : ShardRecord) (layout : LayoutRecord) {O : Type 0} (told : O → Option Text) (failed : O → ℕ)
      (old new : O) where
    -- the shard's text went out, and nothing else
    pub record WroteStudy : Type 0 where
      pub text : Text
      pub is_text : IsStudyText sources g shard layout text
      pub wrote : Wrote told failed old new text

    -- the header and the rows of the first of the shard's points, or of their runs, went out
    pub record WroteFirst : Type 0 where
      pub count : ℕ
      pub text : Text
      pub is_text : IsTextOf sources g shard layout (take count (units_of layout.rows g shard)) text
      pub wrote : Wrote told failed old new text

    -- a front part of these went out
    pub record WroteFront : Type 0 where
      pub count : ℕ
      pub text : Text
      pub is_text : IsTextOf sources g shard layout (take count (units_of layout.rows g shard)) text
      pub wrote : WrotePart told failed old new text

    -- a sweep breaks off: a run can't be run, or memory was refused, or a put failed
    abbrev pub BreaksOff : SweepError → Type 0
    BreaksOff (error.Refused point run reason) =
        CantBeRun layout.groups shard (error.Refused point run reason) × WroteNothing told failed old new
    BreaksOff (error.NoSuchProcess point run group processes) =
        CantBeRun layout.groups shard (error.NoSuchProcess point run group processes)
        × WroteNothing told failed old new
    BreaksOff error.Memory = WroteNothing told failed old new ⊎ WroteFirst
    BreaksOff error.Write = WroteFront

-- so many of a point's runs passed their limit
pub record AreLimited (sources : SourcesRecord) (g : GridRecord) (point : ℕ) (count : ℕ) : Type 0 where
  pub trials : List Trial
  pub each : AllZip (IsTrialOf sources (point_at g point)) (runs g) trials
  pub counted : count ≡ count_by (λ t. is_limited t.result) trials

-- of points and their counts those that are told: where some run passed the limit
abbrev pub told_of : List (ℕ × ℕ) → List (ℕ × ℕ)
told_of counts = filter (λ entry. not (entry.1 == 0)) counts

module _ {W : Type 0} (heard : W → List (ℕ × ℕ) → W → Type 0) (old new : W) (sources : SourcesRecord)
    (g : GridRecord) where
  -- of each of these points with runs past their limit it is told how many, in the points' order, and of no other
  pub record HeardLimits (points : List ℕ) : Type 0 where
    pub counts : List (ℕ × ℕ)
    pub counted : AllZip (λ point entry. (entry.0 ≡ point) × AreLimited sources g point entry.1) points counts
    pub told : HaveJoined heard old new (told_of counts)

  -- the same of some, the first of them
  abbrev pub HeardSomeLimits : (points : List ℕ) → Type 0
  HeardSomeLimits points = (complete : ℕ) × HeardLimits (take complete points)
