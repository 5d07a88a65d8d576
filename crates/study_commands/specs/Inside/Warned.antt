-- What the functions that find warnings have in hand.
use Rattle.std.specs.{Prelude.{◌≡◌, ◌+◌, ◌++◌, ◌<◌, ◌==◌, ◌&&◌, not, ℕ, List, [], length, map, filter, slice_get, slice_index_or, Bool, Option, option_and_then, option_map, if◌then◌else◌}, Borrow.{Bor}, Global.{Vec}}
use Rattle.{std.specs.{List.{AllZip, list_any, range_with_len}, Option.{option_map_or}}, scenario.specs.{Table.{all_items, is_table, the_tables}, Text.{pair_of, processes_of, record_of}}}
use Rattle.study.specs.{Grid.{GridRecord}, Settings.{Given, Path, path_of}, Sources.{SourcesRecord}, declared.key.Key.{Key}}
use Rattle.study_commands.specs.{Warnings.{Dealt, IsFirst, Warning, lates, outages, tick_of, unevens, unused, uses_link}, declared.{dealt_ticks.DealtTicks.{DealtTicks}, first_run.FirstRun.{FirstRun}, warning.Warning.{Warning as Found}}}
use Rattle.study_commands.specs.declared.warning.Warning.TheVariants as found
use Rattle.toml.specs.Data.{Data, Members, as_array, as_table}

abbrev pub dealt_of : DealtTicks → Dealt
dealt_of d = record { key = path_of d.key.now; ticks = d.ticks.items }

abbrev pub paths_said : List (Bor Key) → List Path
paths_said keys = map (λ k. path_of k.now) keys

-- the tick at a place among what keys are set to
abbrev pub tick_said : (place : ℕ) → List Given → Option ℕ
tick_said place givens = option_and_then tick_of (slice_get givens place)

-- the tables of an array of tables, and none of anything else
abbrev pub tables_in : Data → List Members
tables_in d = option_map_or (λ ds. if all_items is_table ds then the_tables ds else []) (as_array d) []

-- the pair of a value that is the table of a link
abbrev pub pair_in : Data → Option (ℕ × ℕ)
pair_in d = option_map pair_of (as_table d)

-- the processes to which a process has links of its own, where these pairs have
abbrev pub ends_from : (linked : List (ℕ × ℕ)) → (from : ℕ) → List ℕ
ends_from linked from = map (λ pair. pair.1) (filter (λ pair. pair.0 == from) linked)

-- a process is another one than these, and than the one that they are of
abbrev pub is_no_end : (ends : List ℕ) → (from to : ℕ) → Bool
is_no_end ends from to = not (from == to) && not (list_any (λ end. end == to) ends)

-- the run is one with this table
pub record IsRunOf (t : Members) (r : FirstRun) : Type 0 where
  pub detector : r.detector ≡ (record_of t).detector
  pub horizon : r.horizon ≡ (record_of t).horizon
  pub processes : r.processes ≡ processes_of t
  pub link : r.uses_link ≡ uses_link t

-- it is the point's first
abbrev pub IsFirstOf : SourcesRecord → GridRecord → (point : ℕ) → FirstRun → Type 0
IsFirstOf sources g point r = (t : Members) × IsFirst sources g point t × IsRunOf t r

-- the i-th is that of the point begin + i
abbrev pub AreFirst : SourcesRecord → GridRecord → (begin : ℕ) → List FirstRun → Type 0
AreFirst sources g begin all =
    (i : ℕ) (d : FirstRun) → i < length all → IsFirstOf sources g (begin + i) (slice_index_or all i d)

abbrev pub warning_of : Found → Warning
warning_of (found.Late its) = lates its
warning_of (found.Uneven key its) = unevens (path_of key.now) its
warning_of (found.Unused key its) = unused (path_of key.now) its
warning_of found.Outages = outages

-- they are found besides
abbrev pub Gains : (old new : Vec Found) → List Warning → Type 0
Gains old new more = map warning_of new.items ≡ map warning_of old.items ++ more

-- this holds of the points from a number on, whatever tables have these first runs
abbrev pub OfRuns : (begin : ℕ) → List FirstRun → ((points : List ℕ) → List Members → Type 0) → Type 0
OfRuns begin runs Holds =
    (tables : List Members) → AllZip IsRunOf tables runs → Holds (range_with_len begin (length runs)) tables
