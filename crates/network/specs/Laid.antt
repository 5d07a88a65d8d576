-- The links that a network lays over a scenario's. Groups of processes, and the links between them.
use Rattle.std.specs.{Prelude.{ℕ, List, map, filter, Bool, Option, None, option_map, ◌==◌, true, not, ◌&&◌, ◌||◌}, List.{range_with_len, flat_map, last_or}, Option.{option_to_list}}
use Rattle.std.specs.FinSet as set
use Rattle.{scenario_record.specs.declared.link.Link.{Link}, network.specs.declared.{network.LinkTable.{LinkTable}, laid.LaidLink.{LaidLink}, group.{Group.{Group, TheVariants.{All, Members}}, Ends.{Ends}, LinkSet.{LinkSet}}}}

-- the process is one of the group
abbrev pub holds : Group → ℕ → Bool
holds All p = true
holds (Members members) p = set.contains members p

-- the link from one process to another is one of those from a group to a group, or of both directions
unfoldable pub joins : (senders receivers : Group) → (both : Bool) → (from to : ℕ) → Bool
joins senders receivers both from to = not (from == to)
    && ((holds senders from && holds receivers to) || (both && (holds senders to && holds receivers from)))

-- the links of those from one process, of 1 to n, by receiver
abbrev pub links_from : (senders receivers : Group) → (both : Bool) → (n from : ℕ) → List Ends
links_from senders receivers both n from =
    map (λ to. record { from = from; to = to }) (filter (joins senders receivers both from) (range_with_len 1 n))

-- the links of those among processes 1 to n, by sender and then by receiver
abbrev pub links_between : (senders receivers : Group) → (both : Bool) → (n : ℕ) → List Ends
links_between senders receivers both n = flat_map (links_from senders receivers both n) (range_with_len 1 n)

abbrev pub links_of : LinkSet → (n : ℕ) → List Ends
links_of links n = links_between links.from links.to links.both n

-- the group of one process
abbrev pub only : ℕ → Group
only p = Members (set.insert set.empty p)

-- the table says something of the link from one process to another
abbrev pub is_of : (from to : ℕ) → LinkTable → Bool
is_of from to table = joins table.links.from table.links.to table.links.both from to

-- what the last table says that says something of the link, if one does
unfoldable pub link_said : List LinkTable → (from to : ℕ) → Option Link
link_said tables from to = last_or None (map (λ t. t.link) (filter (is_of from to) tables))

-- what is laid over the link, if anything is
abbrev pub laid_on : List LinkTable → (from to : ℕ) → Option LaidLink
laid_on tables from to = option_map (λ link. record { from = from; to = to; link = link }) (link_said tables from to)

-- what is laid over the links from a process among 1 to n, by receiver
abbrev pub laid_from : List LinkTable → (n from : ℕ) → List LaidLink
laid_from tables n from = flat_map (λ to. option_to_list (laid_on tables from to)) (range_with_len 1 n)

-- what is laid over the links between processes 1 to n, by sender and then by receiver
unfoldable pub laid_links : List LinkTable → (n : ℕ) → List LaidLink
laid_links tables n = flat_map (laid_from tables n) (range_with_len 1 n)
