-- Which tables are network files, and why others are refused.
use Rattle.std.specs.{Prelude.{◌≡◌, ◌≢◌, ℕ, ◌<◌, ◌≤◌, ◌&&◌, nat_lt, nat_le, not, List, length, Bool, true, false, string_bytes, Option, Some, None, option_map, if◌then◌else◌}, List.{All, Contains, find, range_with_len}}
use Rattle.{std.specs.Option.{option_map_or}, toml.specs.Data.{Members, get_member}, process_api.specs.Place.{most_processes}, scenario.specs.{Table.{is_of, keys_of, tables_at}, Keys.{numbered}}}
use Rattle.scenario.specs.declared.field.Kind.TheVariants as kind
use Rattle.{scenario_record.specs.declared.outage.Outage.{Outage}, network.specs.{Laid.{holds}, Words.{most_tables}, Ranges.{IsNetwork}, Fields.{Field, fault_at, fields_in, file_keys, has_fault, has_unlisted, key_of, keys_in, is_listed}}}
use Rattle.network.specs.Reading.{SaysNetwork, lasts_in, link_in, outages_in, side_at}
use Rattle.network.specs.declared.{field.TableKind.{TableKind, TheVariants.{Links, Bursts, Cuts, Pauses, Replays}}, network.Network.{Network}, refusal.{TableFault.{TableFault}, ValueFault.{ValueFault}, NetworkError.{NetworkError}}}
use Rattle.network.specs.declared.refusal.TableFault.TheVariants as fault
use Rattle.network.specs.declared.refusal.NetworkError.TheVariants as error

-- values that don't fit each other
unfoldable pub link_fault : Members → Option TableFault
link_fault t =
    if nat_lt (link_in t).max (link_in t).min then Some (fault.MinAboveMax (link_in t).min (link_in t).max) else None

-- all processes that there may be
unfoldable pub all_processes : List ℕ
all_processes = range_with_len 1 most_processes

-- the least process of both groups
unfoldable pub cut_fault : Members → Option TableFault
cut_fault t = option_map fault.CommonMember (find (λ p. holds (side_at 0 t) p && holds (side_at 1 t) p) all_processes)

-- the first outage that doesn't begin before its end, or ends after the record
abbrev pub lies_within : (lasts : ℕ) → Outage → Bool
lies_within lasts o = nat_lt o.begin o.until && nat_le o.until lasts

unfoldable pub replay_fault : Members → Option TableFault
replay_fault t = option_map (λ o. fault.NotWithin o.begin o.until (lasts_in t))
    (find (λ o. not (lies_within (lasts_in t) o)) (outages_in t))

abbrev pub fault_of : TableKind → Members → Option TableFault
fault_of Links t = link_fault t
fault_of Bursts t = None
fault_of Cuts t = cut_fault t
fault_of Pauses t = None
fault_of Replays t = replay_fault t

-- a table of a kind is as it should be
pub record IsTableOf (k : TableKind) (t : Members) : Type 0 where
  pub known : has_unlisted (keys_in k) t ≡ false
  pub values : has_fault (fields_in k) t ≡ false
  pub together : fault_of k t ≡ None

-- the value of a file at the key of a kind is as it should be
pub record AreTablesOf (k : TableKind) (file : Members) : Type 0 where
  pub shape : option_map_or (is_of kind.Tables) (get_member (key_of k) file) true ≡ true
  pub few : length (tables_at (key_of k) file) ≤ most_tables
  pub each : All (IsTableOf k) (tables_at (key_of k) file)

pub record IsNetworkFile (file : Members) : Type 0 where
  pub known : has_unlisted file_keys file ≡ false
  pub tables : (k : TableKind) → AreTablesOf k file

-- the file is a network file, and stands for the network, of which outages can be drawn
pub record IsNetworkOf (file : Members) (its : Network) : Type 0 where
  pub is_file : IsNetworkFile file
  pub says : SaysNetwork file its
  pub ranges : IsNetwork its

-- the table has a key that is none of these
pub record HasOther (keys : List (List ℕ)) (t : Members) (key : List ℕ) : Type 0 where
  pub there : Contains (keys_of t) key
  pub other : is_listed keys key ≡ false

-- of a kind, the table of this number is so
pub record HasTable (file : Members) (k : TableKind) (number : ℕ) (its : Members → Type 0) : Type 0 where
  pub table : Members
  pub there : numbered number (tables_at (key_of k) file) ≡ Some table
  pub is : its table

-- one of the keys has this fault in the table
pub record HasFaultAt (fields : List Field) (key : List ℕ) (its : ValueFault) (t : Members) : Type 0 where
  pub field : Field
  pub listed : Contains fields field
  pub named : field.key ≡ key
  pub fault : fault_at field t ≡ Some its

-- the refusal is true of the file
abbrev pub Refuses : NetworkError → (file : Members) → Type 0
Refuses (error.UnknownTable key) file = HasOther file_keys file (string_bytes key)
Refuses (error.NotTables k) file = option_map_or (is_of kind.Tables) (get_member (key_of k) file) true ≡ false
Refuses (error.TooManyTables k) file = most_tables < length (tables_at (key_of k) file)
Refuses (error.UnknownKey k number key) file = HasTable file k number (λ t. HasOther (keys_in k) t (string_bytes key))
Refuses (error.Value k number key its) file = HasTable file k number (HasFaultAt (fields_in k) key.now its)
Refuses (error.Table k number its) file = HasTable file k number (λ t. fault_of k t ≡ Some its)
Refuses error.Memory file = Unit {0}

-- a file that is refused is no network file, but where memory was refused
abbrev pub AreNoFiles : Type 0
AreNoFiles = (e : NetworkError) (file : Members) → e ≢ error.Memory → Refuses e file → ¬ IsNetworkFile file
