-- The keys that the tables of a network file may have, and which values a key may have.
use Rattle.std.specs.{Prelude.{ℕ, ◌==◌, nat_lt, ℤ, List, [], ◌∷◌, map, Bool, true, false, not, ◌&&◌, ◌||◌, if◌then◌else◌, Option, Some, None, option_map, option_and_then, unwrap_or, is_some, codes, length}, List.{list_any}}
use Rattle.{std.specs.Option.{option_map_or, option_or}, toml.specs.Data.{Data, Items, no_items, item, Members, get_member, as_integer, as_str, as_bool, as_array, as_table}, process_api.specs.Place.{last_tick, most_processes, most_ticks}}
use Rattle.scenario.specs.{Table.{all_items, is_number, is_of, keys_of, same_text}, Rules.{is_within}, Faults.{count}}
use Rattle.scenario.specs.declared.field.Kind.TheVariants as kind
use Rattle.network.specs.{Ranges.{most_values}, declared.{field.{TableKind.{TableKind, TheVariants.{Links, Bursts, Cuts, Pauses, Replays}}, Shape.{Shape}}, refusal.ValueFault.{ValueFault}}}
use Rattle.network.specs.declared.field.Field as code
use Rattle.network.specs.declared.field.Shape.TheVariants as shape
use Rattle.network.specs.declared.refusal.ValueFault.TheVariants as fault

-- the key of a kind's array of tables
abbrev pub key_of : TableKind → List ℕ
key_of Links = codes "links"
key_of Bursts = codes "bursts"
key_of Cuts = codes "cuts"
key_of Pauses = codes "pauses"
key_of Replays = codes "replays"

abbrev pub file_keys : List (List ℕ)
file_keys = codes "links" ∷ codes "bursts" ∷ codes "cuts" ∷ codes "pauses" ∷ codes "replays" ∷ []

-- a key that a table may have: what its value must be, whether it must be there, and the ends of the numbers in it
pub record Field : Type 0 where
  pub key : List ℕ
  pub shape : Shape
  pub needed : Bool
  pub low : ℕ
  pub high : ℕ

-- one of the code's lists
abbrev pub field_of : code.Field → Field
field_of f = record { key = f.key.now; shape = f.shape; needed = f.needed; low = f.low; high = f.high }

abbrev pub fields_of : List code.Field → List Field
fields_of fs = map field_of fs

abbrev pub needed : List ℕ → Shape → (low high : ℕ) → Field
needed key its low high = record { key = key; shape = its; needed = true; low = low; high = high }

abbrev pub group_field : List ℕ → Field
group_field key = needed key shape.Group 1 most_processes

abbrev pub both_field : Field
both_field = record (needed (codes "both") shape.Flag 0 0) { needed = false }

abbrev pub spell_field : List ℕ → Field
spell_field key = needed key shape.Spell 1 last_tick

unfoldable pub link_fields : List Field
link_fields = group_field (codes "from") ∷ group_field (codes "to") ∷ both_field
    ∷ needed (codes "min") shape.Number 1 most_ticks ∷ needed (codes "max") shape.Number 1 most_ticks
    ∷ record (needed (codes "loss") shape.Number 0 1000) { needed = false } ∷ []

unfoldable pub burst_fields : List Field
burst_fields = group_field (codes "from") ∷ group_field (codes "to") ∷ both_field
    ∷ spell_field (codes "gap") ∷ spell_field (codes "length") ∷ []

unfoldable pub cut_fields : List Field
cut_fields = needed (codes "between") shape.Sides 1 most_processes
    ∷ spell_field (codes "gap") ∷ spell_field (codes "length") ∷ []

unfoldable pub pause_fields : List Field
pause_fields = group_field (codes "processes") ∷ spell_field (codes "gap") ∷ spell_field (codes "length") ∷ []

unfoldable pub replay_fields : List Field
replay_fields = group_field (codes "from") ∷ group_field (codes "to") ∷ both_field
    ∷ needed (codes "lasts") shape.Number 1 last_tick ∷ needed (codes "outages") shape.Outages 0 last_tick ∷ []

abbrev pub fields_in : TableKind → List Field
fields_in Links = link_fields
fields_in Bursts = burst_fields
fields_in Cuts = cut_fields
fields_in Pauses = pause_fields
fields_in Replays = replay_fields

abbrev pub keys_in : TableKind → List (List ℕ)
keys_in k = map (λ f. f.key) (fields_in k)

-- the key is one of these
unfoldable pub is_listed : List (List ℕ) → List ℕ → Bool
is_listed keys key = list_any (λ k. same_text k key) keys

-- some key of a table is none of these
unfoldable pub has_unlisted : List (List ℕ) → Members → Bool
has_unlisted keys t = list_any (λ k. not (is_listed keys k)) (keys_of t)

-- ---- shapes

-- the items of an array; none of another value
abbrev pub items_in : Data → Items
items_in d = unwrap_or (as_array d) no_items

abbrev pub is_numbers : Data → Bool
is_numbers = is_of kind.Numbers

-- the text that says all processes
abbrev pub is_all : Data → Bool
is_all d = option_map_or (λ text. same_text text (codes "all")) (as_str d) false

-- an array of two integers
abbrev pub is_pair : Data → Bool
is_pair d = is_numbers d && count (items_in d) == 2

-- what a table has as `mean`, and as `values`
abbrev pub mean_in : Data → Option Data
mean_in d = option_and_then (get_member (codes "mean")) (as_table d)

abbrev pub values_in : Data → Option Data
values_in d = option_and_then (get_member (codes "values")) (as_table d)

-- a table with one key: `mean`, an integer, or else `values`, an array of integers
unfoldable pub is_spell_table : Data → Bool
is_spell_table d = length (option_map_or keys_of (as_table d) []) == 1
    && option_map_or is_number (mean_in d) (option_map_or is_numbers (values_in d) false)

abbrev pub takes : Shape → Data → Bool
takes shape.Group d = is_all d || is_numbers d
takes shape.Sides d = count (items_in d) == 2 && all_items is_numbers (items_in d)
takes shape.Flag d = is_some (as_bool d)
takes shape.Number d = is_number d
takes shape.Spell d = is_number d || is_spell_table d
takes shape.Outages d = is_some (as_array d) && all_items is_pair (items_in d)

-- ---- what is wrong with a value of the right shape

abbrev pub is_empty_array : Data → Bool
is_empty_array d = is_some (as_array d) && count (items_in d) == 0

abbrev pub any_item : (Data → Bool) → Items → Bool
any_item test no_items = false
any_item test (item d ds) = test d || any_item test ds

-- an array that needs a member has none
abbrev pub lacks_member : Shape → Data → Bool
lacks_member shape.Group d = is_empty_array d
lacks_member shape.Sides d = any_item is_empty_array (items_in d)
lacks_member shape.Spell d = option_map_or is_empty_array (values_in d) false
lacks_member shape.Outages d = is_empty_array d
lacks_member _ d = false

-- more values than a gap or a length may have
abbrev pub has_more : Shape → Data → Bool
has_more shape.Spell d = option_map_or (λ v. nat_lt most_values (count (items_in v))) (values_in d) false
has_more _ d = false

-- what is found first of what is found in items
abbrev pub first_of : {T : Type 0} → (Data → Option T) → Items → Option T
first_of finds no_items = None
first_of finds (item d ds) = option_or (finds d) (first_of finds ds)

-- the number, where it lies outside the ends, and the first such one of an array
abbrev pub outside : (low high : ℕ) → Data → Option ℤ
outside low high d = option_and_then (λ z. if is_within low high z then None else Some z) (as_integer d)

abbrev pub first_outside : (low high : ℕ) → Data → Option ℤ
first_outside low high d = first_of (outside low high) (items_in d)

-- the first number of a value that lies outside
abbrev pub number_outside : Shape → (low high : ℕ) → Data → Option ℤ
number_outside shape.Group low high d = first_outside low high d
number_outside shape.Sides low high d = first_of (first_outside low high) (items_in d)
number_outside shape.Flag low high d = None
number_outside shape.Number low high d = outside low high d
number_outside shape.Spell low high d = option_or (outside low high d)
    (option_or (option_and_then (outside low high) (mean_in d))
    (option_and_then (first_outside low high) (values_in d)))
number_outside shape.Outages low high d = first_of (first_outside low high) (items_in d)

-- what is wrong with a value
unfoldable pub fault_of_value : Field → Data → Option ValueFault
fault_of_value f d = if not (takes f.shape d) then Some (fault.OtherShape f.shape)
    else if lacks_member f.shape d then Some fault.NoMember
    else if has_more f.shape d then Some fault.TooManyValues
    else option_map (λ z. fault.OutOfRange z f.low f.high) (number_outside f.shape f.low f.high d)

-- what is wrong with what a table has at a key
unfoldable pub fault_at : Field → Members → Option ValueFault
fault_at f t = option_map_or (fault_of_value f) (get_member f.key t) (if f.needed then Some fault.Missing else None)

-- something is wrong with a value of a table
unfoldable pub has_fault : List Field → Members → Bool
has_fault fields t = list_any (λ f. is_some (fault_at f t)) fields
