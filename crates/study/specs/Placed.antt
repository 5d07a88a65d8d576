-- A study's files with a value at a path, in place of the one that is there.
use Rattle.std.specs.{Prelude.{◌≡◌, ℕ, ◌-◌, zero, suc, List, [], ◌∷◌, Option, Some, None, Result, Ok, Err, pos, codes, Bool, true, false, String}, BTreeMap.{BTreeMap}, declared.alloc.Global.{Global}}
use Rattle.{toml.specs.{Data.{Data, integer, string, array, table, Items, no_items, item, Members, no_members, get_member, get_item}, View.{view}, declared.value.Value.{Value}}, scenario.specs.Drawn.{put}}
use Rattle.study.specs.{Settings.{FilePath, top, inner, element, every, Path, scenario, network, path_of, Given, number, text, Chosen}, Sources.{SourcesRecord}, Grid.{RunRecord}}
use Rattle.study.specs.declared.{assignment.Assignment.{Assignment}, error.PlaceError.{PlaceError}}
use Rattle.study.specs.declared.error.PlaceError.TheVariants as error

abbrev pub data_of : Given → Data
data_of (number z) = integer z
data_of (text s) = string s

-- the items with another one at a place, from 0
abbrev pub put_item : ℕ → Data → Items → Items
put_item place d no_items = no_items
put_item zero d (item e ds) = item d ds
put_item (suc place) d (item e ds) = item e (put_item place d ds)

-- a table, or what isn't one
abbrev pub table_of : Data → Result Members PlaceError
table_of (table ms) = Ok ms
table_of _ = Err error.NotATable

-- the table at a key, an empty one where there is nothing
abbrev pub table_or_new : Option Data → Result Members PlaceError
table_or_new None = Ok no_members
table_or_new (Some d) = table_of d

abbrev pub items_of : Option Data → Result Items PlaceError
items_of None = Err error.NoElement
items_of (Some (array ds)) = Ok ds
items_of (Some _) = Err error.NotATable

-- the table that is there
abbrev pub table_there : Option Data → Result Members PlaceError
table_there None = Err error.NoElement
table_there (Some d) = table_of d

-- the table at a place of an array, from 1
abbrev pub element_of : ℕ → Items → Result Members PlaceError
element_of zero ds = Err error.NoElement
element_of (suc i) ds = table_there (get_item i ds)

abbrev pub then : {A B : Type 0} → Result A PlaceError → (A → Result B PlaceError) → Result B PlaceError
then (Ok a) f = f a
then (Err e) f = Err e

-- the items, each of them a table, with a value at a key of each
abbrev pub put_in_each : List ℕ → Data → Items → Result Items PlaceError
put_in_each k d no_items = Ok no_items
put_in_each k d (item e ds) =
    then (table_of e) (λ ms. then (put_in_each k d ds) (λ es. Ok (item (table (put k d ms)) es)))

-- the same of at least one
abbrev pub put_in_all : List ℕ → Data → Items → Result Items PlaceError
put_in_all k d no_items = Err error.NoElement
put_in_all k d (item e ds) = put_in_each k d (item e ds)

-- a file's table with a value at a path, or why it can't be there
abbrev pub set_in_file : FilePath → Data → Members → Result Members PlaceError
set_in_file (top k) d t = Ok (put k d t)
set_in_file (inner name k) d t = then (table_or_new (get_member name t)) (λ ms. Ok (put name (table (put k d ms)) t))
set_in_file (element name place k) d t = then (items_of (get_member name t)) (λ ds. then (element_of place ds)
    (λ ms. Ok (put name (array (put_item (place - 1) (table (put k d ms)) ds)) t)))
set_in_file (every name k) d t =
    then (items_of (get_member name t)) (λ ds. then (put_in_all k d ds) (λ es. Ok (put name (array es) t)))

-- the files with another table of the scenario's, or of the network's
abbrev pub with_scenario : SourcesRecord → Members → SourcesRecord
with_scenario s t = record { scenario = t; network = s.network }

abbrev pub with_network : SourcesRecord → Members → SourcesRecord
with_network s t = record { scenario = s.scenario; network = Some t }

-- the network's table, if there is one
abbrev pub network_there : Option Members → Result Members PlaceError
network_there None = Err error.NoNetwork
network_there (Some n) = Ok n

-- the files with a value at a path, or why it can't be there
abbrev pub set_at : Path → Data → SourcesRecord → Result SourcesRecord PlaceError
set_at (scenario p) d s = then (set_in_file p d s.scenario) (λ t. Ok (with_scenario s t))
set_at (network p) d s = then (network_there s.network) (λ n. then (set_in_file p d n) (λ t. Ok (with_network s t)))

abbrev pub set_chosen : Chosen → SourcesRecord → Result SourcesRecord PlaceError
set_chosen c = set_at c.path (data_of c.value)

-- with all of these set, one after the other
abbrev pub in_turn : {X : Type 0} → (X → SourcesRecord → Result SourcesRecord PlaceError) → List X → SourcesRecord
    → Result SourcesRecord PlaceError
in_turn set [] s = Ok s
in_turn set (x ∷ xs) s = then (set x s) (in_turn set xs)

abbrev pub set_all : List Chosen → SourcesRecord → Result SourcesRecord PlaceError
set_all = in_turn set_chosen

abbrev pub assign_all : List Assignment → SourcesRecord → Result SourcesRecord PlaceError
assign_all = in_turn (λ (a : Assignment). set_at (path_of a.key) (view a.value))

-- the files of a run: with the point's settings, the run's and its seed
abbrev pub sources_of_run : List Chosen → RunRecord → SourcesRecord → Result SourcesRecord PlaceError
sources_of_run point run s = then (set_all point s) (λ t. then (set_all run.settings t)
    (λ u. Ok (with_scenario u (put (codes "seed") (integer (pos run.seed)) u.scenario))))

abbrev pub is_memory : PlaceError → Bool
is_memory (error.Memory m) = true
is_memory _ = false

-- the error says that memory was refused, or why there is no such value
abbrev pub IsRefused : {A : Type 0} → Result A PlaceError → PlaceError → Type 0
IsRefused meant e = is_memory e ≡ false → meant ≡ Err e

abbrev pub Table : Type 0
Table = BTreeMap (String Global) Value
