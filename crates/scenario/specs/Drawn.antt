-- A file's table with outages that are drawn.
use Rattle.std.specs.{Prelude.{ℕ, pos, List, [], ◌++◌, map, codes, if◌then◌else◌}, Ordering.{nat_cmp, match_ordering}, Cmp.Lexicographic.{slice_cmp}}
use Rattle.{toml.specs.{Data.{Data, integer, array, table, Members, no_members, member}, View.{items_of}}, scenario.specs.{Table.{tables_at, is_mistyped}, Keys.{outages_field}, declared.drawn.LinkOutage.{LinkOutage}}}

-- the table with this value at the key
abbrev pub put : List ℕ → Data → Members → Members
put k d no_members = member k d no_members
put k d (member l e ms) =
    match_ordering (slice_cmp nat_cmp k l) (member k d (member l e ms)) (member l d ms) (member l e (put k d ms))

-- the table of `outage` that says what a drawn one is
abbrev pub outage_table : LinkOutage → Members
outage_table o = member (codes "begin") (integer (pos o.begin)) (member (codes "from") (integer (pos o.from))
    (member (codes "to") (integer (pos o.to)) (member (codes "until") (integer (pos o.until)) no_members)))

-- the file's tables of `outage`, and behind them those of the drawn outages
abbrev pub all_outages : List LinkOutage → Members → List Members
all_outages drawn t = tables_at (codes "outage") t ++ map outage_table drawn

-- the file's table with all of them at `outage`; as it was where nothing is drawn, or its own is no array of tables
unfoldable pub with_outages : List LinkOutage → Members → Members
with_outages [] t = t
with_outages drawn t = if is_mistyped outages_field t then t
    else put (codes "outage") (array (items_of (map table (all_outages drawn t)))) t
