-- What is wrong with a file that is refused: what stands at which place of it, and breaks the rule of the refusal.
use Rattle.std.specs.{Prelude.{◌≡◌, ◌≢◌, ℕ, zero, suc, ◌<◌, ℤ, ◌<ℤ◌, ◌≤ℤ◌, List, map, Bool, true, false, ◌&&◌, Option, Some, None, IfSome, option_and_then, codes}, List.{Contains, list_any}, Option.{option_map_or}, Ordering.{int_eq}}
use Rattle.{toml.specs.Data.{Data, integer, Members, Items, no_items, item, get_member, get_item, as_integer, as_str, type_name}, scenario_record.specs.{Record.{Record, link}, declared.algorithm.AlgorithmKind.{AlgorithmKind}}}
use Rattle.scenario_record.specs.declared.algorithm.AlgorithmKind.TheVariants as kind
use Rattle.scenario.specs.{Table.{Field, array_in, is_listed, is_lacking, is_of, same_text, keys_of, has_key, tables_at}, Text.{algorithm_in, processes_of, record_of}, Rules.{is_within}, Parts.{fields_of}}
use Rattle.{scenario.specs.{Keys.{table_of, fields_at, fields_in, array_key, numbered}, Ranges.{Subject, Range, Names, ends_of, allowed_of, subject_of}}, scenario.specs.declared.{error.ScenarioError.{ScenarioError}, place.Place.{Place}}}
use Rattle.scenario.specs.declared.fault.{UnknownKey.{UnknownKey}, WrongKind.{WrongKind}, Outside.{Outside}, OtherName.{OtherName}, ProposalsFault.{ProposalsFault}, MinAboveMax.{MinAboveMax}, NotBefore.{NotBefore}, BelowLookahead.{BelowLookahead}, Fault.{Fault}}
use Rattle.scenario.specs.declared.finding.Finding.{Finding}
use Rattle.scenario.specs.declared.error.ScenarioError.TheVariants as error
use Rattle.scenario.specs.declared.place.TableArray.TheVariants as array
use Rattle.scenario.specs.declared.fault.ProposalsFault.TheVariants as proposals
use Rattle.scenario.specs.declared.fault.Fault.TheVariants as fault
use Rattle.scenario.specs.declared.finding.Finding.TheVariants as finding

-- the integer at a key, and the text, if there is one
abbrev pub integer_in : List ℕ → Members → Option ℤ
integer_in key table = option_and_then as_integer (get_member key table)

abbrev pub text_in : List ℕ → Members → Option (List ℕ)
text_in key table = option_and_then as_str (get_member key table)

abbrev pub has_integer : List ℕ → ℤ → Members → Bool
has_integer key value table = option_map_or (λ z. int_eq z value) (integer_in key table) false

-- ---- keys

-- the table has the key, which isn't one of those that it may have. These are at hand, and those of version 2
pub record IsUnknown (fields in_second : List Field) (table : Members) (u : UnknownKey) : Type 0 where
  pub there : Contains (keys_of table) u.key.now
  pub unlisted : is_listed fields u.key.now ≡ false
  pub are_fields : fields_of u.fields.now ≡ fields
  pub are_in_second : fields_of u.in_second.now ≡ in_second

-- the key is listed and needed, and the table lacks it
pub record IsMissing (fields : List Field) (table : Members) (key : List ℕ) : Type 0 where
  pub field : Field
  pub listed : Contains fields field
  pub named : field.key ≡ key
  pub lacking : is_lacking field table ≡ true

-- the field's value isn't of its kind
pub record IsWrongKindOf (field : Field) (table : Members) (w : WrongKind) : Type 0 where
  pub key : w.key.now ≡ field.key
  pub wanted : w.wanted ≡ field.kind
  pub value : Data
  pub there : get_member field.key table ≡ Some value
  pub other : is_of field.kind value ≡ false
  pub found : w.found.now ≡ type_name value

-- that is so of one of the fields
pub record IsWrongKind (fields : List Field) (table : Members) (w : WrongKind) : Type 0 where
  pub field : Field
  pub listed : Contains fields field
  pub is : IsWrongKindOf field table w

-- ---- values

-- the ends are those of the key's range; the table has the number at the key, and it lies outside
pub record IsOutside (ranges : List Range) (table : Members) (o : Outside) : Type 0 where
  pub range : ends_of ranges o.key.now ≡ Some (o.low, o.high)
  pub there : integer_in o.key.now table ≡ Some o.value
  pub outside : is_within o.low o.high o.value ≡ false

-- the names are those of the key; the table has the text at it, and it is none of them
pub record IsOtherName (names : List Names) (table : Members) (o : OtherName) : Type 0 where
  pub allowed : allowed_of names o.key.now ≡ Some (map (λ name. name.now) o.allowed.now)
  pub there : text_in o.key.now table ≡ Some o.value.now
  pub other : list_any (λ name. same_text name.now o.value.now) o.allowed.now ≡ false

-- the table has the two numbers, and the second is below the first
pub record IsMinAboveMax (table : Members) (a : MinAboveMax) : Type 0 where
  pub min : integer_in (codes "min") table ≡ Some a.min
  pub max : integer_in (codes "max") table ≡ Some a.max
  pub above : a.max <ℤ a.min

-- the table is of a link from a process to itself
pub record IsToItself (table : Members) (process : ℤ) : Type 0 where
  pub from : integer_in (codes "from") table ≡ Some process
  pub to : integer_in (codes "to") table ≡ Some process

-- the outage ends where it begins, or before
pub record IsNotBefore (table : Members) (n : NotBefore) : Type 0 where
  pub begin : integer_in (codes "begin") table ≡ Some n.begin
  pub until : integer_in (codes "until") table ≡ Some n.until
  pub not_before : n.until ≤ℤ n.begin

-- the fault is one of the table's values, and a refusal is about it
abbrev pub IsValueFault : Subject → (table : Members) → Fault → Type 0
IsValueFault s table (fault.Outside o) = IsOutside s.ranges table o
IsValueFault s table (fault.OtherName o) = IsOtherName s.names table o
IsValueFault s table (fault.MinAboveMax a) = (s.delays ≡ true) × IsMinAboveMax table a
IsValueFault s table (fault.ToItself process) = (s.pair ≡ true) × IsToItself table process
IsValueFault s table (fault.NotBefore n) = (s.ends ≡ true) × IsNotBefore table n
IsValueFault s table _ = ⊥

-- the fault is one of a table at a place of a file, and breaks the rule of the refusal
abbrev pub IsFault : ScenarioError → (file : Members) → Place → (table : Members) → Fault → Type 0
IsFault e file at table (fault.UnknownKey u) =
    (e ≡ error.UnknownKey) × IsUnknown (fields_at at file table) (fields_in true at table) table u
IsFault e file at table (fault.MissingKey key) =
    (e ≡ error.MissingKey) × IsMissing (fields_at at file table) table key.now
IsFault e file at table (fault.WrongKind w) = (e ≡ error.WrongKind) × IsWrongKind (fields_at at file table) table w
IsFault e file at table its = IsValueFault (subject_of e at file) table its

-- ---- proposals

abbrev pub count : Items → ℕ
count no_items = 0
count (item d ds) = suc (count ds)

-- the one of this number, from 1
abbrev pub item_numbered : ℕ → Items → Option Data
item_numbered zero ds = None
item_numbered (suc i) ds = get_item i ds

-- the file asks for an algorithm
pub record AsksForOne (file : Members) : Type 0 where
  pub algorithm : AlgorithmKind
  pub is : Some algorithm ≡ algorithm_in file
  pub one : algorithm ≢ kind.Idle

-- there is another number of proposals than one of each process
pub record IsOtherCount (file : Members) (number processes : ℕ) : Type 0 where
  pub its : Items
  pub there : array_in (codes "proposals") file ≡ Some its
  pub counted : number ≡ count its
  pub wanted : processes ≡ processes_of file
  pub other : number ≢ processes

-- the proposal of this number is out of range
pub record IsBadProposal (file : Members) (number : ℕ) (value : ℤ) : Type 0 where
  pub its : Items
  pub there : array_in (codes "proposals") file ≡ Some its
  pub is : item_numbered number its ≡ Some (integer value)
  pub outside : is_within 0 4294967295 value ≡ false

abbrev pub IsProposalsFault : (file : Members) → ProposalsFault → Type 0
IsProposalsFault file proposals.Unasked =
    (Some kind.Idle ≡ algorithm_in file) × (has_key (codes "proposals") file ≡ true)
IsProposalsFault file (proposals.Missing processes) =
    AsksForOne file × (has_key (codes "proposals") file ≡ false) × (processes ≡ processes_of file)
IsProposalsFault file (proposals.Count number processes) = AsksForOne file × IsOtherCount file number processes
IsProposalsFault file (proposals.Outside number value) = AsksForOne file × IsBadProposal file number value

-- ---- links below the lookahead

-- the link of two processes has this `min`, and it is below the lookahead
pub record IsBelow (s : Record) (b : BelowLookahead) : Type 0 where
  pub different : b.from ≢ b.to
  pub min : b.min ≡ (link s b.from b.to).min
  pub lookahead : b.lookahead ≡ s.lookahead
  pub below : b.min < b.lookahead

-- ---- tables of one pair, or of one process

-- the table is of this pair
abbrev pub is_of_pair : (from to : ℤ) → Members → Bool
is_of_pair from to table = has_integer (codes "from") from table && has_integer (codes "to") to table

-- two tables of an array, of which the second number is that of the earlier one, are so
pub record AreTwice (tables : List Members) (number earlier : ℕ) (test : Members → Bool) : Type 0 where
  pub before : earlier < number
  pub first : Members
  pub first_there : numbered earlier tables ≡ Some first
  pub first_is : test first ≡ true
  pub second : Members
  pub second_there : numbered number tables ≡ Some second
  pub second_is : test second ≡ true

-- ---- a file

-- the file has a table at the place, which has the fault
pub record HasFault (e : ScenarioError) (file : Members) (at : Place) (its : Fault) : Type 0 where
  pub table : Members
  pub there : table_of at file ≡ Some table
  pub is : IsFault e file at table its

-- what is found in the file breaks the rule of the refusal
abbrev pub Breaks : ScenarioError → (file : Members) → Finding → Type 0
Breaks e file (finding.At at its) = HasFault e file at its
Breaks e file (finding.Proposals p) = (e ≡ error.Proposals) × IsProposalsFault file p
Breaks e file (finding.Below b) = (e ≡ error.BelowLookahead b.from b.to) × IsBelow (record_of file) b
Breaks e file (finding.TwicePair from to number earlier) =
    (e ≡ error.LinkNumbers) × AreTwice (tables_at (array_key array.Links) file) number earlier (is_of_pair from to)
Breaks e file (finding.TwiceProcess process number earlier) = (e ≡ error.CrashLine)
    × AreTwice (tables_at (array_key array.Crash) file) number earlier (has_integer (codes "process") process)

-- the finding of a refusal, if there is one, breaks its rule
abbrev pub Finds : (file : Members) → (found : Option Finding) → ScenarioError → Type 0
Finds file found e = IfSome found (Breaks e file)
