-- What is warned of before the runs of a scenario or a study: numbers that make what comes of them misleading.
use Rattle.std.specs.Prelude.{ℕ, ◌+◌, ◌-◌, ◌*◌, ◌%◌, ◌==◌, max, nat_lt, fold, pos, codes, List, [], ◌∷◌, ◌++◌, map, filter, length, get_or, slice_get, Bool, true, false, not, ◌&&◌, if◌then◌else◌, Option, None, Some, is_some, option_and_then, option_map, option_to_list}
use Rattle.{std.specs.{Int.{div_ceil}, List.{count_by, filter_map, flat_map, list_any, position, range_with_len, zip}}, process_api.specs.declared.numbers.DetectorNumbers.{DetectorNumbers}}
use Rattle.process_api.specs.declared.numbers.DetectorNumbers.TheVariants as numbers
use Rattle.{scenario.specs.{Table.{same_text, tables_at}, Text.{pair_of, processes_of, record_of, same_pair}}, scenario_record.specs.Record.{Record}}
use Rattle.study.specs.{Grid.{GridRecord, all_keys}, Placed.{sources_of_run}, Laid.{IsRunTable}, Settings.{Chosen, FilePath, Given, Path, element, every, inner, number, scenario}, Sources.{SourcesRecord}}
use Rattle.{study_commands.specs.declared.{found.Found.{Found}, late.Late.{Late}, spread.Spread.{Spread}}, sweep.specs.StudyText.{point_at, run_at}, toml.specs.Data.{Data, Members, array, get_member, item}}

-- the first tick at which a detector can suspect anybody: the first check that finds `timeout` ticks of silence, at
-- the least multiple of `check` that is at least `timeout`; or the first freshness point
abbrev pub first_suspicion : DetectorNumbers → ℕ
first_suspicion (numbers.Timeout its) = div_ceil its.timeout its.check * its.check
first_suspicion (numbers.Freshness its) = its.eta + its.delta

-- the horizon comes before: no event of the horizon or a later tick is taken
abbrev pub late_with : DetectorNumbers → (horizon : ℕ) → Option Late
late_with detector horizon = if nat_lt (first_suspicion detector) horizon then None
    else Some (record { from = first_suspicion detector; horizon = horizon })

abbrev pub late : Record → Option Late
late s = late_with s.detector s.horizon

-- ---- dealt crash ticks that leave a part of the period out

-- ticks between two rounds of a detector's letters
abbrev pub period_of : DetectorNumbers → ℕ
period_of (numbers.Timeout its) = its.period
period_of (numbers.Freshness its) = its.eta

-- the phases of ticks, in rising order: how many ticks they lie after the last round of letters
abbrev pub phases : (period : ℕ) → (ticks : List ℕ) → List ℕ
phases period ticks = filter (λ phase. list_any (λ tick. tick % period == phase) ticks) (range_with_len 0 period)

-- the phase after each of them: after the last comes the first, a period later
abbrev pub next_phases : (period : ℕ) → List ℕ → List ℕ
next_phases period [] = []
next_phases period (first ∷ others) = others ++ (first + period) ∷ []

-- how many ticks lie between each and the next one
abbrev pub gaps : (period : ℕ) → List ℕ → List ℕ
gaps period all = map (λ pair. pair.1 - pair.0) (zip all (next_phases period all))

abbrev pub greatest_gap : (period : ℕ) → List ℕ → ℕ
greatest_gap period all = fold max 0 (gaps period all)

-- the ticks are uneven: a gap is above twice the period divided by the number of different phases
abbrev pub uneven_in : (period : ℕ) → (ticks : List ℕ) → Option Spread
uneven_in period ticks = let all = phases period ticks in
    let gap = greatest_gap period all in
    if nat_lt (2 * period) (gap * length all)
    then Some (record { period = period; phases = length all; gap = gap }) else None

abbrev pub uneven : (ticks : List ℕ) → Record → Option Spread
uneven ticks s = uneven_in (period_of s.detector) ticks

-- the ticks of crashes that a key is set to
pub record Dealt : Type 0 where
  pub key : Path
  pub ticks : List ℕ

-- a key is the tick of a crash, as `crash[1].at` and `crash[*].at`
abbrev pub is_tick_of_crash : FilePath → Bool
is_tick_of_crash (element table place key) = same_text table (codes "crash") && same_text key (codes "at")
is_tick_of_crash (every table key) = same_text table (codes "crash") && same_text key (codes "at")
is_tick_of_crash _ = false

abbrev pub is_crash_tick : Path → Bool
is_crash_tick (scenario key) = is_tick_of_crash key
is_crash_tick _ = false

abbrev pub tick_of : Given → Option ℕ
tick_of (number (pos tick)) = Some tick
tick_of _ = None

-- what one of an axis' choices sets the key at a place to
abbrev pub tick_in : (place : ℕ) → List Chosen → Option ℕ
tick_in place choice = option_and_then (λ c. tick_of c.value) (slice_get choice place)

-- the keys that an axis sets: those of its first choice
abbrev pub keys_of : (choices : List (List Chosen)) → List Path
keys_of choices = map (λ c. c.path) (get_or choices 0 [])

-- the key of an axis at a place, where it is the tick of a crash
abbrev pub dealt_to : (choices : List (List Chosen)) → (place : ℕ) × Path → Option Dealt
dealt_to choices key =
    if is_crash_tick key.1 then Some (record { key = key.1; ticks = filter_map (tick_in key.0) choices }) else None

abbrev pub dealt_by : (choices : List (List Chosen)) → List Dealt
dealt_by choices = filter_map (dealt_to choices) (zip (range_with_len 0 (length (keys_of choices))) (keys_of choices))

-- all crash ticks that a study deals to its seeds
abbrev pub dealt : GridRecord → List Dealt
dealt g = flat_map dealt_by g.deal

-- ---- a common link that no pair has

-- the pairs of processes that have a link of their own, in `links`
abbrev pub linked_pairs : Members → List (ℕ × ℕ)
linked_pairs t = map pair_of (tables_at (codes "links") t)

-- letters from a process to another one go by the table `link`, where these pairs have links of their own
abbrev pub goes_by_link : (linked : List (ℕ × ℕ)) → (from to : ℕ) → Bool
goes_by_link linked from to = not (from == to) && not (list_any (λ pair. same_pair pair (from, to)) linked)

-- those to some other one of so many do
abbrev pub sends_by_link : (linked : List (ℕ × ℕ)) → (processes from : ℕ) → Bool
sends_by_link linked processes from = list_any (goes_by_link linked from) (range_with_len 1 processes)

-- some letters do in a run with this table
abbrev pub uses_link : Members → Bool
uses_link t = list_any (sends_by_link (linked_pairs t) (processes_of t)) (range_with_len 1 (processes_of t))

-- none do: each pair of so many processes has a link of its own
abbrev pub unlinked_where : (uses : Bool) → (processes : ℕ) → Option ℕ
unlinked_where uses processes = if uses then None else Some processes

abbrev pub unlinked : Members → Option ℕ
unlinked t = unlinked_where (uses_link t) (processes_of t)

-- a key of the table `link`, as `link.loss`
abbrev pub is_of_link : Path → Bool
is_of_link (scenario (inner table key)) = same_text table (codes "link")
is_of_link _ = false

-- those that a study varies, adds up over or deals
abbrev pub link_keys : GridRecord → List Path
link_keys g = filter is_of_link (all_keys g)

-- ---- outages that all runs share

-- a key of an outage's table in the scenario's file
abbrev pub is_of_outage : Path → Bool
is_of_outage (scenario (element table place key)) = same_text table (codes "outage")
is_of_outage (scenario (every table key)) = same_text table (codes "outage")
is_of_outage _ = false

abbrev pub sets_outage : (choices : List (List Chosen)) → Bool
sets_outage choices = list_any is_of_outage (keys_of choices)

abbrev pub are_tables : Option Data → Bool
are_tables (Some (array (item first others))) = true
are_tables _ = false

abbrev pub has_outage : Members → Bool
has_outage file = are_tables (get_member (codes "outage") file)

-- the scenario's file has outages, the same for all seeds of a point; those that a network draws differ by the seed
abbrev pub shares_outages : SourcesRecord → GridRecord → Bool
shares_outages sources g = nat_lt 1 g.seeds
    && (has_outage sources.scenario && not (list_any sets_outage g.deal) && not (list_any sets_outage g.over))

-- ---- warnings

-- what is found at points, of these numbers: at how many of them, and what at the first
abbrev pub found : {T : Type 0} → (points : List ℕ) → List (Option T) → Option (Found T)
found points all = option_and_then (λ place. option_map (λ what. record {
  points = count_by is_some all;
  first = get_or points place 0;
  what = what;
}) (get_or all place None)) (position is_some all)

pub data Warning : Type 0 where
  -- at points no detector can suspect anybody before the horizon
  lates : Found Late → Warning
  -- at points the crash ticks that a key is dealt are uneven
  unevens : (key : Path) → Found Spread → Warning
  -- at points a key that is set is of the common link, which no pair has
  unused : (key : Path) → Found ℕ → Warning
  outages : Warning

-- at points whose first runs have these tables
module _ (points : List ℕ) (tables : List Members) where
  abbrev pub warning_of_lates : Option Warning
  warning_of_lates = option_map lates (found points (map (λ t. late (record_of t)) tables))

  abbrev pub warning_of_dealt : Dealt → Option Warning
  warning_of_dealt d = option_map (unevens d.key) (found points (map (λ t. uneven d.ticks (record_of t)) tables))

  abbrev pub warning_of_key : Path → Option Warning
  warning_of_key key = option_map (unused key) (found points (map unlinked tables))

  abbrev pub warnings : SourcesRecord → GridRecord → List Warning
  warnings sources g = option_to_list warning_of_lates ++ (filter_map warning_of_dealt (dealt g)
      ++ (filter_map warning_of_key (link_keys g) ++ (if shares_outages sources g then outages ∷ [] else [])))

-- the table is that of the point's first run, which stands for all of them
abbrev pub IsFirst : SourcesRecord → GridRecord → (point : ℕ) → Members → Type 0
IsFirst sources g point t = IsRunTable (sources_of_run (point_at g point) (run_at g 0) sources) t
