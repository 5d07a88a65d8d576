-- The rules by which a scenario's table is refused, each by itself.
use Rattle.std.specs.{Prelude.{ℕ, ◌==◌, nat_le, nat_lt, ℤ, pos, List, [], ◌∷◌, length, map, filter, find, Bool, true, false, not, ◌&&◌, ◌||◌, if◌then◌else◌, Option, Some, is_none, codes}, List.{list_any, range_with_len, flat_map}}
use Rattle.{std.specs.Option.{option_map_or}, toml.specs.Data.{Members}, process_api.specs.Place.{last_tick, most_processes, most_ticks}, scenario_record.specs.{Record.{Record, link}, declared.{algorithm.AlgorithmKind.{AlgorithmKind}, link.Link.{Link}}}}
use Rattle.scenario.specs.Table.{number_or, same_text, integers_at, has_key, table_at, table_or_empty, tables_at}
use Rattle.scenario.specs.Text.{natural_of, kind_in, is_fresh, algorithm_in, watch_in, delays_of, pair_of, same_pair, outage_of, crash_process, processes_of}
use Rattle.scenario_record.specs.declared.algorithm.AlgorithmKind.TheVariants as kind

-- the number lies between the ends
abbrev pub is_within : ℕ → ℕ → ℤ → Bool
is_within low high z = option_map_or (λ n. nat_le low n && nat_le n high) (natural_of z) false

-- the number at a key, or its default, lies outside these ends
unfoldable pub is_outside : ℕ → ℕ → List ℕ → ℕ → Members → Bool
is_outside low high key default t = not (is_within low high (number_or key (pos default) t))

-- the number at a key, or its default, is below 0
unfoldable pub is_negative : List ℕ → ℕ → Members → Bool
is_negative key default t = is_none (natural_of (number_or key (pos default) t))

-- two of the tables have the same key
abbrev pub has_repeat : {K : Type 0} → (K → K → Bool) → (Members → K) → List Members → Bool
has_repeat same key [] = false
has_repeat same key (t ∷ ts) = list_any (λ u. same (key t) (key u)) ts || has_repeat same key ts

abbrev pub same_process : ℕ → ℕ → Bool
same_process p q = p == q

-- how many processes a file may have, by its version
abbrev pub most_in : (is_second : Bool) → ℕ
most_in true = most_processes
most_in false = 64

abbrev pub is_bad_proposal : ℤ → Bool
is_bad_proposal z = not (is_within 0 4294967295 z)

-- there are no proposals, or other ones than n numbers in their range
unfoldable pub are_other_than : ℕ → Bool → List ℤ → Bool
are_other_than n is_there zs = not is_there || (not (length zs == n) || list_any is_bad_proposal zs)

-- without an algorithm there are proposals; with one they aren't one of each of n processes
abbrev pub are_bad_proposals : Option AlgorithmKind → ℕ → Bool → List ℤ → Bool
are_bad_proposals (Some kind.Idle) n is_there zs = is_there
are_bad_proposals _ n is_there zs = are_other_than n is_there zs

-- those of a table don't fit its algorithm and its processes
abbrev pub proposals_refused : Members → Bool
proposals_refused t = are_bad_proposals (algorithm_in t) (processes_of t)
    (has_key (codes "proposals") t) (integers_at (codes "proposals") t)

unfoldable pub is_bad_timeout : Members → Bool
is_bad_timeout d = is_outside 1 most_ticks (codes "period") 0 d || (is_outside 1 most_ticks (codes "check") 0 d
    || (is_outside 1 most_ticks (codes "timeout") 0 d || (is_outside 1 most_ticks (codes "grow") 1 d
    || is_none (watch_in d))))

unfoldable pub is_bad_freshness : Members → Bool
is_bad_freshness d =
    is_outside 1 most_ticks (codes "eta") 0 d || (is_outside 1 most_ticks (codes "delta") 0 d || is_none (watch_in d))

-- the table names another kind than the two
unfoldable pub is_other_kind : Members → Bool
is_other_kind d = not (is_fresh d) && not (same_text (kind_in d) (codes "timeout"))

-- a number of the named kind is out of its range, the watch is none, or the kind is another
unfoldable pub is_bad_detector : Members → Bool
is_bad_detector d = is_other_kind d || (if is_fresh d then is_bad_freshness d else is_bad_timeout d)

abbrev pub detector_refused : Members → Bool
detector_refused t = is_bad_detector (table_or_empty (codes "detector") t)

abbrev pub is_bad_share : Members → Bool
is_bad_share s = is_outside 1 most_ticks (codes "period") 0 s

abbrev pub share_refused : Members → Bool
share_refused t = option_map_or is_bad_share (table_at (codes "share") t) false

-- min or max out of range, min above max, or loss out of range
unfoldable pub is_bad_link : Members → Bool
is_bad_link l = is_outside 1 most_ticks (codes "min") 0 l || (is_outside 1 most_ticks (codes "max") 0 l
    || (nat_lt (delays_of l).max (delays_of l).min || is_outside 0 1000 (codes "loss") 0 l))

-- of n processes: the delays are refused, from or to isn't a process, or both are one
unfoldable pub is_bad_pair : ℕ → Members → Bool
is_bad_pair n l = is_bad_link l || (is_outside 1 n (codes "from") 0 l || (is_outside 1 n (codes "to") 0 l
    || (pair_of l).0 == (pair_of l).1))

-- some table is refused by itself, or two are of one pair
abbrev pub are_bad_pairs : ℕ → List Members → Bool
are_bad_pairs n tables = list_any (is_bad_pair n) tables || has_repeat same_pair pair_of tables

-- the common link is refused, or the tables of pairs are
abbrev pub links_refused : Members → Bool
links_refused t =
    is_bad_link (table_or_empty (codes "link") t) || are_bad_pairs (processes_of t) (tables_at (codes "links") t)

-- the pairs of different processes of 1 to n, by from, then to
abbrev pub pairs_from : ℕ → ℕ → List (ℕ × ℕ)
pairs_from n from = map (λ to. (from, to)) (filter (λ to. not (to == from)) (range_with_len 1 n))

abbrev pub pairs : ℕ → List (ℕ × ℕ)
pairs n = flat_map (pairs_from n) (range_with_len 1 n)

-- the pair's link has its min below the lookahead
abbrev pub is_below : (ℕ × ℕ → Link) → ℕ → ℕ × ℕ → Bool
is_below links lookahead pair = nat_lt (links pair).min lookahead

-- the least pair, by from, then to, whose link has its min below the lookahead
unfoldable pub pair_below : Record → Option (ℕ × ℕ)
pair_below s = find (is_below (λ pair. link s pair.0 pair.1) s.lookahead) (pairs s.processes)

-- of n processes: the process isn't one of them, or the tick is out of range
unfoldable pub is_bad_crash : ℕ → Members → Bool
is_bad_crash n c = is_outside 1 n (codes "process") 0 c || is_outside 0 last_tick (codes "at") 0 c

-- some table is refused by itself, or two are of one process
abbrev pub are_bad_crashes : ℕ → List Members → Bool
are_bad_crashes n tables = list_any (is_bad_crash n) tables || has_repeat same_process crash_process tables

abbrev pub crashes_refused : Members → Bool
crashes_refused t = are_bad_crashes (processes_of t) (tables_at (codes "crash") t)

-- of n processes: from or to isn't one, or both are one; begin or until is out of range, or begin isn't below until
unfoldable pub is_bad_outage : ℕ → Members → Bool
is_bad_outage n o =
    is_outside 1 n (codes "from") 0 o || (is_outside 1 n (codes "to") 0 o || ((pair_of o).0 == (pair_of o).1
    || (is_outside 0 last_tick (codes "begin") 0 o || (is_outside 0 last_tick (codes "until") 0 o
    || nat_le (outage_of o).until (outage_of o).begin))))

abbrev pub are_bad_outages : ℕ → List Members → Bool
are_bad_outages n tables = list_any (is_bad_outage n) tables

abbrev pub outages_refused : Members → Bool
outages_refused t = are_bad_outages (processes_of t) (tables_at (codes "outage") t)
