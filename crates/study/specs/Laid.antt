-- The table of a run: its scenario's, over which its network is laid.
use Rattle.std.specs.{Prelude.{◌≡◌, ◌<◌, ◌≤◌, ◌==◌, ℕ, pos, List, [], ◌∷◌, ◌++◌, map, filter, length, codes, Bool, true, false, not, ◌&&◌, ◌||◌, nat_le, Option, None, MatchOption, if◌then◌else◌, Some, Result, Ok, Err}, List.{list_any}}
use Rattle.std.specs.Option.{option_map_or}
use Rattle.toml.specs.{Data.{Data, integer, array, table, Items, no_items, item, Members, no_members, get_member, as_array, as_table, members_depth, members_have_valid_dates}, View.{items_of}, Parse.{parse_document}}
use Rattle.{process_api.specs.Place.{last_tick, most_processes}, scenario_record.specs.Record.{Record}}
use Rattle.scenario.specs.{Drawn.{put, with_outages}, Table.{is_of}, Text.{number_at, is_second, pair_of, same_pair, processes_of, record_of}, Refusals.{Accepts, refusal_of, is_memory as is_scenario_memory}}
use Rattle.scenario.specs.declared.{drawn.LinkOutage.{LinkOutage}, error.ScenarioError.{ScenarioError}}
use Rattle.scenario.specs.declared.field.Kind.TheVariants as kind
use Rattle.network.specs.{Above.{groups_of, AreWithin, HasAbove}, Drawn.{drawn_of, most_outages}, Laid.{laid_links}, Refusals.{IsNetworkOf, Refuses}}
use Rattle.network.specs.declared.{above.Above.{Above}, field.TableKind.{TableKind}, laid.LaidLink.{LaidLink}, network.Network.{Network}, refusal.NetworkError.{NetworkError}}
use Rattle.study.specs.{Sources.{SourcesRecord}, Placed.{is_memory as is_place_memory}, declared.error.{PlaceError.{PlaceError}, ReadError.{ReadError}, TextError.{TextError}}}
use Rattle.study.specs.declared.error.PlaceError.TheVariants as error
use Rattle.study.specs.declared.error.ReadError.TheVariants as read_error
use Rattle.study.specs.declared.error.TextError.TheVariants as text_error

abbrev pub horizon_of : Members → ℕ
horizon_of t = number_at (codes "horizon") 0 t

abbrev pub seed_of : Members → ℕ
seed_of t = number_at (codes "seed") 0 t

-- the processes and the horizon of the table are those that a run can have
unfoldable pub is_run : Members → Bool
is_run t = (nat_le 1 (processes_of t) && nat_le (processes_of t) most_processes) && nat_le (horizon_of t) last_tick

-- what the network lays over the links of the run, and what it draws
abbrev pub laid_in : Members → Network → List LaidLink
laid_in t its = laid_links its.links.items (processes_of t)

abbrev pub drawn_in : Members → Network → List LinkOutage
drawn_in t its = drawn_of (processes_of t) (horizon_of t) (seed_of t) its

-- the table with this number at the key
abbrev pub with_number : (key : List ℕ) → (number : ℕ) → Members → Members
with_number key number t = put key (integer (pos number)) t

-- a table with these numbers at these keys
abbrev pub with_numbers : List (List ℕ × ℕ) → Members
with_numbers [] = no_members
with_numbers (n ∷ ns) = with_number n.0 n.1 (with_numbers ns)

unfoldable pub link_table : LaidLink → Data
link_table l = table (with_numbers ((codes "from", l.from) ∷ (codes "to", l.to)
    ∷ (codes "min", l.link.min) ∷ (codes "max", l.link.max) ∷ (codes "loss", l.link.loss) ∷ []))

abbrev pub listed : Items → List Data
listed no_items = []
listed (item d ds) = d ∷ listed ds

-- what stands in an array
abbrev pub values_in : Data → List Data
values_in d = option_map_or listed (as_array d) []

-- with the array of tables at a key changed, which is empty where there is no such key; another value stays as it is
unfoldable pub with_tables : (key : List ℕ) → (List Data → List Data) → Members → Members
with_tables key change t =
    option_map_or (λ d. if is_of kind.Tables d then put key (array (items_of (change (values_in d)))) t else t)
    (get_member key t) (put key (array (items_of (change []))) t)

-- a table of `links` is of a link that is laid
abbrev pub is_laid : List LaidLink → Data → Bool
is_laid laid d = option_map_or (λ t. list_any (λ l. same_pair (pair_of t) (l.from, l.to)) laid) (as_table d) false

-- with these tables over those of an array at a key, from which those of links that are laid are left out. It stays as
-- it is where there are none to lay
unfoldable pub with_rows : (key : List ℕ) → List LaidLink → (rows : List Data) → Members → Members
with_rows key laid rows t =
    if length rows == 0 then t else with_tables key (λ ds. filter (λ d. not (is_laid laid d)) ds ++ rows) t

abbrev pub lay_links : List LaidLink → Members → Members
lay_links laid t = with_rows (codes "links") laid (map link_table laid) t

-- the links are laid, and then the outages are there besides that the table itself draws
abbrev pub lay : Network → Members → Members
lay its t = with_outages (drawn_in t its) (lay_links (laid_in t its) t)

-- ---- whether a network can be laid

-- it has tables of which outages are drawn
unfoldable pub has_sources : Network → Bool
has_sources its = not (length its.bursts.items == 0) || (not (length its.cuts.items == 0)
    || (not (length its.pauses.items == 0) || not (length its.replays.items == 0)))

-- only a table of version 2 has outages
abbrev pub is_new_enough : Members → Network → Bool
is_new_enough t its = is_second t || not (has_sources its)

abbrev pub AreAllThere : Members → Network → Type 0
AreAllThere t its = (k : TableKind) → AreWithin (processes_of t) (groups_of its k)

-- the file's network fits the run: it names processes that are there, and draws nothing where that can't be said
pub record Fits (t file : Members) (its : Network) : Type 0 where
  pub is : IsNetworkOf file its
  pub all_there : AreAllThere t its
  pub version : is_new_enough t its ≡ true

-- with the network of the file laid over it, the table is this one
pub record IsLaidBy (t file laid : Members) : Type 0 where
  pub its : Network
  pub fits : Fits t file its
  pub few : length (drawn_in t its) ≤ most_outages
  pub laid_is : laid ≡ lay its t

-- why it can't be, in the order in which the reasons are looked for
pub data CantBeLaid (t file : Members) : PlaceError → Type 0 where
  refused : {e : NetworkError} → Refuses e file → CantBeLaid t file (error.Network e)
  above : (its : Network) {a : Above} → IsNetworkOf file its
      → HasAbove (processes_of t) (groups_of its a.kind) a.number a.key.now a.process
      → CantBeLaid t file (error.ProcessAbove a)
  older : (its : Network) → IsNetworkOf file its → AreAllThere t its → is_new_enough t its ≡ false
      → CantBeLaid t file error.OlderFile
  too_many : (its : Network) → Fits t file its → most_outages < length (drawn_in t its)
      → CantBeLaid t file error.TooManyOutages

-- ---- the table of a run

-- the network's file that is laid, if any: none where the scenario's own rules refuse the table's processes or horizon
abbrev pub file_over : SourcesRecord → Option Members
file_over s = if is_run s.scenario then s.network else None

-- the table for which the files stand
abbrev pub IsLaid : SourcesRecord → Members → Type 0
IsLaid s t = MatchOption (file_over s) (t ≡ s.scenario) (λ file. IsLaidBy s.scenario file t)

-- they stand for none, for this reason
abbrev pub IsUnlaid : SourcesRecord → PlaceError → Type 0
IsUnlaid s e = MatchOption (file_over s) ⊥ (λ file. CantBeLaid s.scenario file e)

-- ---- the table and the scenario of a run, by its files

-- what there is of a run's files, or why they can't be
abbrev pub RunSources : Type 0
RunSources = Result SourcesRecord PlaceError

-- the table of the run
abbrev pub IsRunTable : RunSources → Members → Type 0
IsRunTable (Ok s) t = IsLaid s t
IsRunTable (Err e) t = ⊥

-- the run has no table, for this reason
abbrev pub HasNoTable : RunSources → PlaceError → Type 0
HasNoTable (Err e) f = f ≡ e
HasNoTable (Ok s) f = IsUnlaid s f

-- the table isn't refused, and the scenario is the one that it stands for
pub record StandsFor (t : Members) (s : Record) : Type 0 where
  pub unrefused : refusal_of t ≡ None
  pub record_is : s ≡ record_of t

pub record IsScenarioOf (r : RunSources) (s : Record) : Type 0 where
  pub table : Members
  pub is_table : IsRunTable r table
  pub stands_for : StandsFor table s

-- the refusal is that of the run's table
pub record IsRefusedBy (r : RunSources) (e : ScenarioError) : Type 0 where
  pub table : Members
  pub is_table : IsRunTable r table
  pub applies : refusal_of table ≡ Some e

-- why the run has no scenario: it has no table, or its table is refused
abbrev pub IsRefusedFor : RunSources → ReadError → Type 0
IsRefusedFor r (read_error.Place e) = HasNoTable r e
IsRefusedFor r (read_error.Scenario e) = IsRefusedBy r e

abbrev pub is_memory : ReadError → Bool
is_memory (read_error.Place e) = is_place_memory e
is_memory (read_error.Scenario e) = is_scenario_memory e

-- ---- the text of a run's file

-- the text is TOML that reads back as the table, and as its scenario, where at most 80 tables and arrays are nested
pub record IsTextOf (t : Members) (text : List ℕ) : Type 0 where
  pub reads_back : members_depth t ≤ 80 → parse_document text ≡ Some t
  pub scenario : members_depth t ≤ 80 → (s : Record) → Accepts text s → StandsFor t s

pub record IsRunText (r : RunSources) (text : List ℕ) : Type 0 where
  pub table : Members
  pub is_table : IsRunTable r table
  pub is_text : IsTextOf table text

-- the run's table has a date that TOML can't say
pub record HasBadDate (r : RunSources) : Type 0 where
  pub table : Members
  pub is_table : IsRunTable r table
  pub date : members_have_valid_dates table ≡ false

-- why the run has no text: it has no table, or one with such a date
abbrev pub HasNoText : RunSources → TextError → Type 0
HasNoText r (text_error.Place e) = HasNoTable r e
HasNoText r text_error.Date = HasBadDate r

abbrev pub is_text_memory : TextError → Bool
is_text_memory (text_error.Place e) = is_place_memory e
is_text_memory text_error.Date = false
