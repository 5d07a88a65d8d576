-- What `check` answers. What no run of a scenario breaks, in lines.
use Rattle.std.specs.Prelude.{◌≡◌, ℕ, if◌then◌else◌, nat_lt, List, [], length, ◌++◌, codes, decimal, Option, ◌==◌, nat_le, Bool, None, Some}
use Rattle.{process_api.specs.{Place.{most_ticks}, declared.numbers.DetectorNumbers.{DetectorNumbers, TheVariants.{Timeout, Freshness}}}, promised.specs.{Promised.{promised}, declared.bounds.PromisedBounds.{PromisedBounds}}}
use Rattle.{diagnosis.specs.Diagnosis.{entries_in, longest_window}, study.specs.{Sources.{SourcesRecord}, Grid.{GridRecord, runs, ShardRecord}}}
use Rattle.study_commands.specs.{File.{IsScenario}, Sweep.{IsSaid}, declared.checking.TheConstants.{WORTH_FOUR_WORKERS}}
use Rattle.{study_line.specs.declared.order.{SourceTexts.{SourceTexts}, StudyTexts.{StudyTexts}}, sweep.specs.{Layout.{LayoutRecord}, Outcome.{AreReady}, StudyText.{numbers_of}}, scenario_record.specs.Record.{Record}}

-- within how many ticks crashes are detected; with time-outs, under which condition
abbrev pub within_text : DetectorNumbers → (ticks : ℕ) → List ℕ
within_text (Timeout its) ticks =
    codes "each correct process detects each crash of whom it watches within " ++ (decimal ticks
    ++ codes " ticks, as long as no suspicion is taken back\n")
within_text (Freshness its) ticks =
    codes "each correct process detects each crash of whom it watches within " ++ (decimal ticks ++ codes " ticks\n")

-- nothing is said where there is no crash that a correct process is to detect
abbrev pub promise_text : DetectorNumbers → Option ℕ → List ℕ
promise_text detector None = []
promise_text detector (Some ticks) = within_text detector ticks

abbrev pub detection_text : DetectorNumbers → (is_late : Bool) → Option ℕ → List ℕ
detection_text detector is_late detection =
    if is_late then codes "the detection of some crash is not promised before the horizon\n"
    else promise_text detector detection

-- how many links surely bring no mistake, where any are watched
abbrev pub reliable_text : (watched reliable : ℕ) → List ℕ
reliable_text watched reliable = if watched == 0 then []
    else codes "watched links that surely bring no mistake: " ++ (decimal reliable ++ (codes " of "
    ++ (decimal watched ++ codes "\n")))

-- of the mistakes over how many links nothing is promised, where there are such
abbrev pub lossy_text : (lossy : ℕ) → List ℕ
lossy_text lossy = if lossy == 0 then []
    else codes "watched links with loss or outages, of whose mistakes nothing is promised: "
    ++ (decimal lossy ++ codes "\n")

-- the key that says how long a detector waits
abbrev pub key_of : DetectorNumbers → List ℕ
key_of (Timeout its) = codes "timeout"
key_of (Freshness its) = codes "delta"

-- with which numbers of that key the other links can bring no mistake, where there are others
abbrev pub needed_text : (key : List ℕ) → Option ℕ → List ℕ
needed_text key None = []
needed_text key (Some ticks) = if nat_le ticks most_ticks
    then codes "with " ++ (key ++ (codes " " ++ (decimal ticks
    ++ codes " or more no link without loss and outages can bring a mistake\n")))
    else codes "no "
    ++ (key ++ codes " that a file may have is sure to be enough for the links without loss and outages\n")

abbrev pub bounds_text : DetectorNumbers → PromisedBounds → List ℕ
bounds_text detector b = detection_text detector b.is_late b.detection
    ++ (reliable_text b.watched b.reliable ++ (lossy_text b.lossy ++ needed_text (key_of detector) b.needed))

-- that a run of about so many entries may have more than its limit, where that is so
abbrev pub limit_text : (limit entries : ℕ) → List ℕ
limit_text limit entries =
    if nat_lt limit entries then codes "limit " ++ (decimal limit ++ codes " may stop the run\n") else []

-- how long windows may be, about how many entries they then have, and which way is likely faster
abbrev pub window_text : (ticks entries : ℕ) → List ℕ
window_text ticks entries = if nat_lt entries WORTH_FOUR_WORKERS
    then codes "windows of " ++ (decimal ticks ++ (codes " ticks have about " ++ (decimal entries
    ++ codes " entries: list is likely faster\n")))
    else codes "windows of " ++ (decimal ticks ++ (codes " ticks have about " ++ (decimal entries
    ++ codes " entries: run by 4 workers is likely faster\n")))

-- what is told of an accepted file
abbrev pub accepted_text : (processes horizon limit window entries seconds in_window : ℕ) → List ℕ
accepted_text processes horizon limit window entries seconds in_window =
    codes "ok: " ++ (decimal processes ++ (codes " processes, horizon " ++ (decimal horizon ++ (codes ", about "
    ++ (decimal entries ++ (codes " entries in " ++ (decimal seconds ++ (codes " s\n"
    ++ (window_text window in_window ++ limit_text limit entries)))))))))

-- these are the scenario's processes, its horizon, its limit and its longest window, which has its share of the
-- entries. It isn't said how near the estimate of all entries comes. After that come the bounds that no run breaks
pub record TellsOf (s : Record) (piece : List ℕ) : Type 0 where
  pub entries : ℕ
  pub seconds : ℕ
  pub text : piece ≡ accepted_text s.processes s.horizon s.limit (longest_window s)
      entries seconds (entries_in (longest_window s) entries s.horizon)
      ++ bounds_text s.detector (promised s)

-- the files stand for a scenario, and it is told of
pub record IsCheckAnswer (input : Option (List ℕ)) (texts : SourceTexts) (piece : List ℕ) : Type 0 where
  pub scenario : Record
  pub is_scenario : IsScenario input texts scenario
  pub tells : TellsOf scenario piece

-- the begin of the text of a study whose runs are all accepted
abbrev pub study_begin : (points runs : ℕ) → List ℕ
study_begin points runs =
    codes "ok: " ++ (decimal points ++ (codes " points of " ++ (decimal runs ++ codes " runs each")))

-- all runs of the study that can be swept can be run, of the shard's points where one is named, and the text
-- begins with how many points and runs these are. It isn't said what is reckoned of them, and of their limits
pub record IsStudyCheck (input : Option (List ℕ)) (texts : SourceTexts) (study : StudyTexts)
    (piece : List ℕ) : Type 0 where
  pub sources : SourcesRecord
  pub grid : GridRecord
  pub shard : ShardRecord
  pub layout : LayoutRecord
  pub said : IsSaid input texts study sources grid shard layout
  pub each : AreReady sources grid layout.groups shard
  pub reckoned : List ℕ
  pub text : piece ≡ study_begin (length (numbers_of grid shard)) (length (runs grid)) ++ reckoned
