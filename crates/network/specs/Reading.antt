-- What a network file says: which network its table stands for.
use Rattle.std.specs.{Prelude.{◌≡◌, ℕ, ℤ, pos, List, [], ◌∷◌, ◌++◌, Bool, false, Option, Some, None, option_and_then, unwrap_or, if◌then◌else◌, codes, IsPermutation, min}, List.{AllZip, Sorted.{IsSorted}}}
use Rattle.std.specs.Option.{option_map_or, option_to_list}
use Rattle.std.specs.FinSet as set
use Rattle.{toml.specs.Data.{Data, Items, Members, no_items, item, at, get_member, as_integer, as_bool}, process_api.specs.{Place.{most_processes}, Sets.{insert_all}}, scenario.specs.{Table.{tables_at}, Text.{natural}, Rules.{is_within}}}
use Rattle.{scenario_record.specs.declared.{link.Link.{Link}, outage.Outage.{Outage}}, network.specs.{Ranges.{outage_cmp}, Fields.{key_of, items_in, is_all, mean_in, values_in}}}
use Rattle.network.specs.declared.{field.TableKind.TheVariants.{Links, Bursts, Cuts, Pauses, Replays}, group.{Group.{Group}, LinkSet.{LinkSet}}, spell.Spell.{Spell}, rhythm.Rhythm.{Rhythm}}
use Rattle.network.specs.declared.network.{LinkTable.{LinkTable}, Burst.{Burst}, Cut.{Cut}, Pause.{Pause}, Replay.{Replay}, Network.{Network}}
use Rattle.network.specs.declared.group.Group.TheVariants as group
use Rattle.network.specs.declared.spell.Spell.TheVariants as spell

-- the integer of a value; 0 of another one
abbrev pub integer_of : Data → ℤ
integer_of d = unwrap_or (as_integer d) (pos 0)

-- the number of a value; 0 of a negative one. Greater ones than 2^32 - 1, which are refused, are cut
unfoldable pub number_of : Data → ℕ
number_of d = min (natural (integer_of d)) 4294967295

-- the number that a table has at a key; 0 where it isn't there
abbrev pub number_at : List ℕ → Members → ℕ
number_at key t = option_map_or number_of (get_member key t) 0

-- what is said of each item
abbrev pub each : {T : Type 0} → (Data → T) → Items → List T
each says no_items = []
each says (item d ds) = says d ∷ each says ds

-- the process that a value says, if it says one
abbrev pub process_of : Data → Option ℕ
process_of d = option_and_then (λ z. if is_within 1 most_processes z then Some (natural z) else None) (as_integer d)

-- the processes that are said
abbrev pub processes_in : Items → List ℕ
processes_in no_items = []
processes_in (item d ds) = option_to_list (process_of d) ++ processes_in ds

-- all processes, or those of an array
unfoldable pub group_of : Data → Group
group_of d = if is_all d then group.All else group.Members (insert_all set.empty (processes_in (items_in d)))

-- the group that is said at a key, or at a place; nobody where it isn't there
abbrev pub group_or_nobody : Option Data → Group
group_or_nobody d = option_map_or group_of d (group.Members set.empty)

abbrev pub group_at : List ℕ → Members → Group
group_at key t = group_or_nobody (get_member key t)

-- of two groups, the one at a place
abbrev pub side_at : ℕ → Members → Group
side_at place t = group_or_nobody (option_and_then (at place) (get_member (codes "between") t))

-- whether the links back belong to it: not where it isn't said
abbrev pub both_in : Members → Bool
both_in t = unwrap_or (option_and_then as_bool (get_member (codes "both") t)) false

-- the links of a table with `from`, `to` and perhaps `both`
abbrev pub links_in : Members → LinkSet
links_in t = record { from = group_at (codes "from") t; to = group_at (codes "to") t; both = both_in t }

-- what is said of a gap or a length: the ticks, one of these values, or the mean
pub data Said : Type 0 where
  ticks : ℕ → Said
  values : List ℕ → Said
  mean : ℕ → Said

abbrev pub said_of : Spell → Said
said_of (spell.Ticks number) = ticks number
said_of (spell.Values its) = values its.items
said_of (spell.Mean its) = mean its

-- by a value: an integer, or a table with `mean` or else `values`
abbrev pub listed_in : Data → List ℕ
listed_in d = option_map_or (λ v. each number_of (items_in v)) (values_in d) []

abbrev pub said_in : Data → Said
said_in d = option_map_or (λ z. ticks (number_of d)) (as_integer d)
    (option_map_or (λ m. mean (number_of m)) (mean_in d) (values (listed_in d)))

abbrev pub said_at : List ℕ → Members → Said
said_at key t = option_map_or said_in (get_member key t) (values [])

pub record SaysRhythm (t : Members) (its : Rhythm) : Type 0 where
  pub gap : said_of its.gap ≡ said_at (codes "gap") t
  pub length : said_of its.length ≡ said_at (codes "length") t

-- the outage of an array of two numbers
abbrev pub outage_of : Data → Outage
outage_of d =
    record { begin = option_map_or number_of (at 0 d) 0; until = option_map_or number_of (at 1 d) 0 }

abbrev pub outages_in : Members → List Outage
outages_in t = option_map_or (λ d. each outage_of (items_in d)) (get_member (codes "outages") t) []

abbrev pub lasts_in : Members → ℕ
lasts_in t = number_at (codes "lasts") t

abbrev pub link_in : Members → Link
link_in t =
    record { min = number_at (codes "min") t; max = number_at (codes "max") t; loss = number_at (codes "loss") t }

pub record SaysLink (t : Members) (its : LinkTable) : Type 0 where
  pub links : its.links ≡ links_in t
  pub link : its.link ≡ link_in t

pub record SaysBurst (t : Members) (its : Burst) : Type 0 where
  pub links : its.links ≡ links_in t
  pub rhythm : SaysRhythm t its.rhythm

pub record SaysCut (t : Members) (its : Cut) : Type 0 where
  pub one : its.one ≡ side_at 0 t
  pub other : its.other ≡ side_at 1 t
  pub rhythm : SaysRhythm t its.rhythm

pub record SaysPause (t : Members) (its : Pause) : Type 0 where
  pub processes : its.processes ≡ group_at (codes "processes") t
  pub rhythm : SaysRhythm t its.rhythm

-- the record has the table's outages, by begin, and those of one begin by end
pub record SaysReplay (t : Members) (its : Replay) : Type 0 where
  pub links : its.links ≡ links_in t
  pub lasts : its.lasts ≡ lasts_in t
  pub outages : IsPermutation (outages_in t) its.outages.items
  pub in_order : IsSorted outage_cmp its.outages.items

-- the network has what each table says, in the order of the file
pub record SaysNetwork (t : Members) (its : Network) : Type 0 where
  pub links : AllZip SaysLink (tables_at (key_of Links) t) its.links.items
  pub bursts : AllZip SaysBurst (tables_at (key_of Bursts) t) its.bursts.items
  pub cuts : AllZip SaysCut (tables_at (key_of Cuts) t) its.cuts.items
  pub pauses : AllZip SaysPause (tables_at (key_of Pauses) t) its.pauses.items
  pub replays : AllZip SaysReplay (tables_at (key_of Replays) t) its.replays.items
