-- What a TOML table holds at its keys, and the faults of its keys.
use Rattle.std.specs.{Prelude.{ℕ, nat_eq, ℤ, List, [], ◌∷◌, Bool, true, false, not, ◌&&◌, Option, option_and_then, unwrap_or, is_some, is_none, if◌then◌else◌}, List.{list_any}, Option.{option_map_or}, Cmp.Lexicographic.{pointwise}}
use Rattle.{toml.specs.Data.{Data, integer, table, Members, no_members, member, Items, no_items, item, get_member, as_integer, as_str, as_array, as_table}, scenario.specs.declared.field.Kind.{Kind}}
use Rattle.scenario.specs.declared.field.Kind.TheVariants as kind

-- the integer at a key, or the default where there is none
unfoldable pub number_or : List ℕ → ℤ → Members → ℤ
number_or key default t = unwrap_or (option_and_then as_integer (get_member key t)) default

-- the text at a key, or the default where there is none
unfoldable pub text_or : List ℕ → List ℕ → Members → List ℕ
text_or key default t = unwrap_or (option_and_then as_str (get_member key t)) default

abbrev pub the_integers : Items → List ℤ
the_integers no_items = []
the_integers (item (integer z) ds) = z ∷ the_integers ds
the_integers (item _ ds) = the_integers ds

-- the array at a key, if there is one
abbrev pub array_in : List ℕ → Members → Option Items
array_in key t = option_and_then as_array (get_member key t)

-- the integers of the array at a key; none where there is no array
unfoldable pub integers_at : List ℕ → Members → List ℤ
integers_at key t = option_map_or the_integers (array_in key t) []

unfoldable pub has_key : List ℕ → Members → Bool
has_key key t = is_some (get_member key t)

-- the table at a key, if there is one
unfoldable pub table_at : List ℕ → Members → Option Members
table_at key t = option_and_then as_table (get_member key t)

-- the table at a key, or an empty one
abbrev pub table_or_empty : List ℕ → Members → Members
table_or_empty key t = unwrap_or (table_at key t) no_members

-- each item passes
abbrev pub all_items : (Data → Bool) → Items → Bool
all_items test no_items = true
all_items test (item d ds) = test d && all_items test ds

abbrev pub is_number : Data → Bool
is_number d = is_some (as_integer d)

abbrev pub is_table : Data → Bool
is_table d = is_some (as_table d)

abbrev pub the_tables : Items → List Members
the_tables no_items = []
the_tables (item (table ms) ds) = ms ∷ the_tables ds
the_tables (item _ ds) = the_tables ds

-- the tables of the array of tables at a key; none where there is no such array
unfoldable pub tables_at : List ℕ → Members → List Members
tables_at key t = option_map_or (λ ds. if all_items is_table ds then the_tables ds else []) (array_in key t) []

-- the value is of the kind
abbrev pub is_of : Kind → Data → Bool
is_of kind.Number d = is_number d
is_of kind.Text d = is_some (as_str d)
is_of kind.Numbers d = option_map_or (all_items is_number) (as_array d) false
is_of kind.Table d = is_table d
is_of kind.Tables d = option_map_or (all_items is_table) (as_array d) false

pub record Field : Type 0 where
  pub key : List ℕ
  pub kind : Kind
  pub needed : Bool

-- the keys of a table, in order
abbrev pub keys_of : Members → List (List ℕ)
keys_of no_members = []
keys_of (member k d ms) = k ∷ keys_of ms

abbrev pub same_text : List ℕ → List ℕ → Bool
same_text = pointwise nat_eq

unfoldable pub is_listed : List Field → List ℕ → Bool
is_listed fields key = list_any (λ f. same_text f.key key) fields

unfoldable pub has_unlisted : List Field → Members → Bool
has_unlisted fields t = list_any (λ k. not (is_listed fields k)) (keys_of t)

-- the field is needed and missing
unfoldable pub is_lacking : Field → Members → Bool
is_lacking f t = f.needed && is_none (get_member f.key t)

unfoldable pub has_lacking : List Field → Members → Bool
has_lacking fields t = list_any (λ f. is_lacking f t) fields

-- the field is there and of another kind
unfoldable pub is_mistyped : Field → Members → Bool
is_mistyped f t = option_map_or (λ d. not (is_of f.kind d)) (get_member f.key t) false

-- some listed key has a value of another kind
unfoldable pub has_mistyped : List Field → Members → Bool
has_mistyped fields t = list_any (λ f. is_mistyped f t) fields
