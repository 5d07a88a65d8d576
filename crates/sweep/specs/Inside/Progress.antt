-- How far a sweep has come. The runs of a study by numbers: those of its points, one point after the other.
use Rattle.std.specs.{Prelude.{ℕ, ◌+◌, ◌-◌, ◌*◌, ◌≤◌, ◌<◌, List, length, take, Option, ◌≡◌, ◌/◌, ◌%◌, slice_index_or, Some, Result, IfOk}, List.{AllZip, range_with_len, count_by}}
use Rattle.{scenario_record.specs.Record.{Record}, study.specs.{Sources.{SourcesRecord}, Grid.{GridRecord, runs, ShardRecord}, Placed.{sources_of_run}, declared.error.PlaceError.{PlaceError}}}
use Rattle.reporting.specs.Outlet.{Wrote, WrotePart, WroteNothing}
use Rattle.sweep.specs.{Layout.{LayoutRecord, Text}, Results.{Trial}, StudyText.{point_at, unit_point, unit_runs, unit_first, header_of, IsTrialOf, HasRowsOf, run_at}, Sums.{AreUnitSums, AreNumbers}, Columns.{is_limited}}
use Rattle.sweep.specs.{Outcome.{HeardLimits, CantRun, IsReady}, Groups.{first_above}}
use Rattle.sweep.specs.declared.{error.SweepError.{SweepError}, progress.Progress.{Progress}, run_numbers.RunNumbers.{RunNumbers}, group.Group.{Group}, limits.Limits.{Limits}, layout.Rows.{Rows}}
use Rattle.sweep.specs.declared.error.SweepError.TheVariants as error
use Rattle.sweep.specs.declared.layout.Rows.TheVariants as kind

-- the point of a run's number, and the run of the point
abbrev pub point_of : GridRecord → ℕ → ℕ
point_of g number = number / length (runs g)

abbrev pub run_of_point : GridRecord → ℕ → ℕ
run_of_point g number = number % length (runs g)

-- the table of a run's number
abbrev pub table_at : SourcesRecord → GridRecord → ℕ → Result SourcesRecord PlaceError
table_at sources g number = sources_of_run (point_at g (point_of g number)) (run_at g (run_of_point g number)) sources

-- how many runs a unit has, and how many units so many points have
abbrev pub runs_each : Rows → GridRecord → ℕ
runs_each kind.Points g = length (runs g)
runs_each kind.Runs g = 1

abbrev pub unit_count : Rows → GridRecord → (points : ℕ) → ℕ
unit_count kind.Points g points = points
unit_count kind.Runs g points = points * length (runs g)

-- why a scenario that a run has can't be run, or that memory was refused
abbrev pub IsLack : Record → List Group → (point run : ℕ) → SweepError → Type 0
IsLack S groups point run (error.NoSuchProcess p r group processes) =
    (p ≡ point) × (r ≡ run) × (processes ≡ S.processes) × (first_above S.processes groups ≡ Some group)
IsLack S groups point run error.Memory = Unit {0}
IsLack S groups point run _ = ⊥

module _ (sources : SourcesRecord) (g : GridRecord) (groups : List Group) where
  abbrev pub IsReadyAt : ℕ → Type 0
  IsReadyAt number = IsReady sources g groups (point_of g number) (run_of_point g number)

  -- why the run of this number can't be run
  abbrev pub IsRefusalAt : ℕ → SweepError → Type 0
  IsRefusalAt number error.Memory = Unit {0}
  IsRefusalAt number e = CantRun sources g groups (point_of g number) (run_of_point g number) e

  -- of these numbers the refusal is that of the first that can't be run
  abbrev pub IsFirstRefusal : (first end : ℕ) → SweepError → Type 0
  IsFirstRefusal first end error.Memory = Unit {0}
  IsFirstRefusal first end e = (number : ℕ) × (first ≤ number) × (number < end) × IsRefusalAt number e
      × ((m : ℕ) → first ≤ m → m < number → IsReadyAt m)

  -- all runs of the points from one up to another can be run
  abbrev pub ArePointsReady : (begin end : ℕ) → Type 0
  ArePointsReady begin end = (n : ℕ) → begin * length (runs g) ≤ n → n < end * length (runs g) → IsReadyAt n

  -- the numbers of the run of a run's number
  pub record AreNumbersAt (number : ℕ) (n : RunNumbers) : Type 0 where
    pub trial : Trial
    pub is_trial : IsTrialOf sources (point_at g (point_of g number)) (run_at g (run_of_point g number)) trial
    pub numbers : AreNumbers groups trial n

  abbrev pub IsAnswerAt : {E : Type 0} → ℕ → Result RunNumbers E → Type 0
  IsAnswerAt number r = IfOk r (AreNumbersAt number)

  -- the numbers of the runs whose numbers follow one another
  abbrev pub AreNumbersFrom : (first : ℕ) → List RunNumbers → Type 0
  AreNumbersFrom first all =
      (i : ℕ) (d : RunNumbers) → i < length all → AreNumbersAt (first + i) (slice_index_or all i d)

-- the number of the run that comes next
abbrev pub next_run : GridRecord → LayoutRecord → Progress → ℕ
next_run g layout p = p.unit * runs_each layout.rows g + p.run

module _ (sources : SourcesRecord) (g : GridRecord) (layout : LayoutRecord) where
  -- the first runs of a unit are added up
  pub record AreAdded (p : Progress) : Type 0 where
    pub trials : List Trial
    pub each : AllZip (IsTrialOf sources (point_at g (unit_point layout.rows g p.unit)))
        (take p.run (unit_runs layout.rows g p.unit)) trials
    pub summed : AreUnitSums layout.groups (unit_first layout.rows g p.unit) trials p.sums
    pub run_low : p.run < runs_each layout.rows g

  module _ {O : Type 0} (told : O → Option Text) (failed : O → ℕ) (old new : O) (begin : ℕ) where
    -- the rows of all units from the first up to this one went out
    pub record WroteUpTo (unit : ℕ) : Type 0 where
      pub text : Text
      pub has : HasRowsOf sources g layout (range_with_len begin (unit - begin)) text
      pub wrote : Wrote told failed old new text
      pub order : begin ≤ unit

    -- a front part of these went out
    pub record WroteFrontUpTo (unit : ℕ) : Type 0 where
      pub text : Text
      pub has : HasRowsOf sources g layout (range_with_len begin (unit - begin)) text
      pub wrote : WrotePart told failed old new text
      pub order : begin ≤ unit

    pub record IsUnderWay (p : Progress) : Type 0 where
      pub out : WroteUpTo p.unit
      pub added : AreAdded p

    -- it came to no end, at a unit below this one
    abbrev pub StopsBelow : (end : ℕ) → SweepError → Type 0
    StopsBelow end (error.Refused point run reason) = ⊥
    StopsBelow end (error.NoSuchProcess point run group processes) = ⊥
    StopsBelow end error.Memory = (unit : ℕ) × (unit ≤ end) × WroteUpTo unit
    StopsBelow end error.Write = (unit : ℕ) × (unit ≤ end) × WroteFrontUpTo unit

module _ (g : GridRecord) (layout : LayoutRecord) {O : Type 0} (told : O → Option Text) (failed : O → ℕ)
    (old new : O) where
  -- with these runs, which come next, a sweep that was under way, of whatever files, goes on from one place to another
  abbrev pub GoesOn : List RunNumbers → (from to : Progress) → Type 0
  GoesOn all from to = (sources : SourcesRecord) (start : O) (begin : ℕ)
      → AreNumbersFrom sources g layout.groups (next_run g layout from) all
      → IsUnderWay sources g layout told failed start old begin from
      → IsUnderWay sources g layout told failed start new begin to

  -- or it comes to no end, below the unit whose runs aren't yet all there
  abbrev pub StopsAt : List RunNumbers → (from : Progress) → SweepError → Type 0
  StopsAt all from e = (sources : SourcesRecord) (start : O) (begin end : ℕ)
      → next_run g layout from + length all ≤ end * runs_each layout.rows g
      → AreNumbersFrom sources g layout.groups (next_run g layout from) all
      → IsUnderWay sources g layout told failed start old begin from
      → StopsBelow sources g layout told failed start new begin end e

  -- the rows of the points from one up to another went out, or a sweep of them stopped
  abbrev pub WrotePoints : SourcesRecord → (begin end : ℕ) → Type 0
  WrotePoints sources begin end =
      WroteUpTo sources g layout told failed old new (unit_count layout.rows g begin) (unit_count layout.rows g end)

  abbrev pub StopsInPoints : SourcesRecord → (begin end : ℕ) → SweepError → Type 0
  StopsInPoints sources begin end e =
      StopsBelow sources g layout told failed old new (unit_count layout.rows g begin) (unit_count layout.rows g end) e

-- the header of a shard could not be written whole
abbrev pub HeaderFails : GridRecord → ShardRecord → LayoutRecord → {O : Type 0} (told : O → Option Text)
    (failed : O → ℕ) (old new : O) → SweepError → Type 0
HeaderFails g shard layout told failed old new (error.Refused point run reason) = ⊥
HeaderFails g shard layout told failed old new (error.NoSuchProcess point run group processes) = ⊥
HeaderFails g shard layout told failed old new error.Memory = WroteNothing told failed old new
HeaderFails g shard layout told failed old new error.Write = WrotePart told failed old new (header_of g shard layout)

-- the number of the run that comes next
abbrev pub next_counted : GridRecord → Limits → ℕ
next_counted g l = l.point * length (runs g) + l.run

-- the points from one number up to another
abbrev pub numbers_in : (swept : ℕ × ℕ) → List ℕ
numbers_in swept = range_with_len swept.0 (swept.1 - swept.0)

module _ (sources : SourcesRecord) (g : GridRecord) where
  -- the first runs of the point are counted
  pub record AreCounted (l : Limits) : Type 0 where
    pub trials : List Trial
    pub each : AllZip (IsTrialOf sources (point_at g l.point)) (take l.run (runs g)) trials
    pub counted : l.count ≡ count_by (λ t. is_limited t.result) trials

  module _ {W : Type 0} (heard : W → List (ℕ × ℕ) → W → Type 0) (old new : W) (begin : ℕ) where
    -- and of all points from the first up to this one it was told
    pub record AreUnderWay (l : Limits) : Type 0 where
      pub told : HeardLimits heard old new sources g (range_with_len begin (l.point - begin))
      pub order : begin ≤ l.point
      pub counting : AreCounted l

-- with these runs, which come next, a watcher that was told of all points before one place, of whatever files and with
-- whatever groups of pairs, is told of all before another
abbrev pub TellsOn : GridRecord → {W : Type 0} (heard : W → List (ℕ × ℕ) → W → Type 0) (old new : W)
    → List RunNumbers → (from to : Limits) → Type 0
TellsOn g {W} heard old new all from to = (sources : SourcesRecord) (groups : List Group) (start : W) (begin : ℕ)
    → AreNumbersFrom sources g groups (next_counted g from) all
    → AreUnderWay sources g heard start old begin from
    → AreUnderWay sources g heard start new begin to
