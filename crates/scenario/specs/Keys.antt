-- The keys that the tables of a scenario's file may have.
use Rattle.std.specs.{Prelude.{ℕ, List, [], ◌∷◌, Bool, true, false, ◌&&◌, ◌||◌, if◌then◌else◌, codes, zero, suc, ◌++◌, slice_get, Option, Some, None, decimal}, List.{list_any}, Option.{option_map_or}}
use Rattle.toml.specs.Data.{Members}
use Rattle.scenario.specs.{Table.{Field, table_at, tables_at}, Text.{is_second, is_fresh}, declared.{field.Kind.TheVariants.{Number, Text, Numbers, Table, Tables}, place.{Section.{Section}, TableArray.{TableArray}, Place.{Place}}}}
use Rattle.scenario.specs.declared.place.Section.TheVariants as section
use Rattle.scenario.specs.declared.place.TableArray.TheVariants as array
use Rattle.scenario.specs.declared.place.Place.TheVariants as place

-- a number that must be there
abbrev pub needed : List ℕ → Field
needed k = record { key = k; kind = Number; needed = true }

-- a number that may be missing
abbrev pub optional : List ℕ → Field
optional k = record { key = k; kind = Number; needed = false }

abbrev pub outages_field : Field
outages_field = record (optional (codes "outage")) { kind = Tables }

-- what a file of version 2 may have besides
abbrev pub further_fields : (is_second : Bool) → List Field
further_fields true = outages_field ∷ []
further_fields false = []

abbrev pub kind_fields : (is_second : Bool) → List Field
kind_fields true = record (optional (codes "kind")) { kind = Text } ∷ []
kind_fields false = []

unfoldable pub top_fields : (is_second : Bool) → List Field
top_fields second = needed (codes "version") ∷ needed (codes "processes") ∷ needed (codes "horizon")
    ∷ needed (codes "lookahead") ∷ needed (codes "seed") ∷ optional (codes "limit")
    ∷ record (needed (codes "algorithm")) { kind = Text }
    ∷ record (optional (codes "proposals")) { kind = Numbers }
    ∷ record (needed (codes "detector")) { kind = Table }
    ∷ record (needed (codes "link")) { kind = Table }
    ∷ record (optional (codes "share")) { kind = Table }
    ∷ record (optional (codes "links")) { kind = Tables }
    ∷ record (optional (codes "crash")) { kind = Tables } ∷ further_fields second

-- of a detector's table that names no freshness points: version 2 has the kind besides
unfoldable pub timeout_fields : (is_second : Bool) → List Field
timeout_fields second = needed (codes "period") ∷ needed (codes "check") ∷ needed (codes "timeout")
    ∷ optional (codes "grow") ∷ record (optional (codes "watch")) { kind = Text } ∷ kind_fields second

-- of one that does
unfoldable pub freshness_fields : List Field
freshness_fields = needed (codes "eta") ∷ needed (codes "delta") ∷ record (optional (codes "watch")) { kind = Text }
    ∷ kind_fields true

-- the keys of a detector's table in a file
abbrev pub detector_fields : (is_second : Bool) → Members → List Field
detector_fields second d = if second && is_fresh d then freshness_fields else timeout_fields second

-- it has the fault
abbrev pub detector_has : (List Field → Members → Bool) → (is_second : Bool) → Members → Bool
detector_has fault second d = fault (detector_fields second d) d

unfoldable pub share_fields : List Field
share_fields = needed (codes "period") ∷ []

unfoldable pub link_fields : List Field
link_fields = needed (codes "min") ∷ needed (codes "max") ∷ optional (codes "loss") ∷ []

-- of each table of `links`
unfoldable pub pair_fields : List Field
pair_fields = needed (codes "from") ∷ needed (codes "to") ∷ needed (codes "min") ∷ needed (codes "max")
    ∷ optional (codes "loss") ∷ []

-- of each table of `crash`
unfoldable pub crash_fields : List Field
crash_fields = needed (codes "process") ∷ needed (codes "at") ∷ []

-- of each table of `outage`
unfoldable pub outage_fields : List Field
outage_fields = needed (codes "from") ∷ needed (codes "to") ∷ needed (codes "begin") ∷ needed (codes "until") ∷ []

-- some table of the file has the fault. A value that should be a table, or an array of tables, and isn't has no inside
unfoldable pub some_table : (List Field → Members → Bool) → Members → Bool
some_table fault t = fault (top_fields (is_second t)) t
    || (option_map_or (detector_has fault (is_second t)) (table_at (codes "detector") t) false
    || (option_map_or (fault share_fields) (table_at (codes "share") t) false
    || (option_map_or (fault link_fields) (table_at (codes "link") t) false
    || (list_any (fault pair_fields) (tables_at (codes "links") t)
    || (list_any (fault crash_fields) (tables_at (codes "crash") t)
    || list_any (fault outage_fields) (tables_at (codes "outage") t))))))

-- the tables of a scenario's file, by their places
abbrev pub section_key : Section → List ℕ
section_key section.Detector = codes "detector"
section_key section.Share = codes "share"
section_key section.Link = codes "link"

abbrev pub array_key : TableArray → List ℕ
array_key array.Links = codes "links"
array_key array.Crash = codes "crash"
array_key array.Outage = codes "outage"

-- the path of the table at a place: nothing for the top table, `detector`, or `crash[1]`
abbrev pub place_text : Place → List ℕ
place_text place.Top = []
place_text (place.Section s) = section_key s
place_text (place.Element a number) = array_key a ++ codes "[" ++ decimal number ++ codes "]"

-- the table of this number, from 1
abbrev pub numbered : ℕ → List Members → Option Members
numbered zero tables = None
numbered (suc i) tables = slice_get tables i

-- a file's table at a place, if there is one; no value but a table, or an array of tables alone, has an inside
abbrev pub table_of : Place → Members → Option Members
table_of place.Top file = Some file
table_of (place.Section s) file = table_at (section_key s) file
table_of (place.Element a number) file = numbered number (tables_at (array_key a) file)

-- the keys that it may have, in a file of version 2 or of version 1
abbrev pub fields_of_section : Section → (is_second : Bool) → (table : Members) → List Field
fields_of_section section.Detector second table = detector_fields second table
fields_of_section section.Share second table = share_fields
fields_of_section section.Link second table = link_fields

abbrev pub fields_of_array : TableArray → List Field
fields_of_array array.Links = pair_fields
fields_of_array array.Crash = crash_fields
fields_of_array array.Outage = outage_fields

abbrev pub fields_in : (is_second : Bool) → Place → (table : Members) → List Field
fields_in second place.Top table = top_fields second
fields_in second (place.Section s) table = fields_of_section s second table
fields_in second (place.Element a number) table = fields_of_array a

abbrev pub fields_at : Place → (file table : Members) → List Field
fields_at at file table = fields_in (is_second file) at table
