-- The record that a scenario's table stands for, defaults filled in.
use Rattle.std.specs.{Prelude.{ℕ, ◌==◌, ℤ, pos, negsuc, List, [], map, filter, find, Bool, ◌&&◌, Option, Some, None, option_map, unwrap_or, codes, if◌then◌else◌}, List.{range_with_len, flat_map}, Ordering.{int_eq}}
use Rattle.{toml.specs.Data.{Members}, process_api.specs.declared.numbers.{DetectorNumbers.{DetectorNumbers}, FreshnessNumbers.{FreshnessNumbers}, TimeoutNumbers.{TimeoutNumbers}, Watch.{Watch}}}
use Rattle.process_api.specs.declared.numbers.DetectorNumbers.TheVariants as numbers
use Rattle.process_api.specs.declared.numbers.Watch.TheVariants as watch
use Rattle.scenario_record.specs.{Record.{Record}, declared.{algorithm.AlgorithmKind.{AlgorithmKind}, link.Link.{Link}, outage.Outage.{Outage}}}
use Rattle.scenario.specs.Table.{number_or, text_or, integers_at, same_text, table_at, table_or_empty, tables_at}
use Rattle.scenario_record.specs.declared.algorithm.AlgorithmKind.TheVariants as kind

-- the number, where it isn't negative
abbrev pub natural_of : ℤ → Option ℕ
natural_of (pos n) = Some n
natural_of (negsuc n) = None

-- the number; 0 for a negative one
abbrev pub natural : ℤ → ℕ
natural z = unwrap_or (natural_of z) 0

-- the number at a key, or its default; 0 for a negative one
unfoldable pub number_at : List ℕ → ℕ → Members → ℕ
number_at key default t = natural (number_or key (pos default) t)

-- the version is the number 2
unfoldable pub is_second : Members → Bool
is_second t = int_eq (number_or (codes "version") (pos 0) t) (pos 2)

-- the kind that a detector's table names
abbrev pub kind_in : Members → List ℕ
kind_in d = text_or (codes "kind") (codes "timeout") d

unfoldable pub is_fresh : Members → Bool
is_fresh d = same_text (kind_in d) (codes "freshness")

unfoldable pub algorithm_named : List ℕ → Option AlgorithmKind
algorithm_named name = if same_text name (codes "none") then Some kind.Idle
    else if same_text name (codes "s") then Some kind.Strong
    else if same_text name (codes "es") then Some kind.EventuallyStrong
    else None

unfoldable pub watch_named : List ℕ → Option Watch
watch_named name = if same_text name (codes "all") then Some watch.All
    else if same_text name (codes "next") then Some watch.Next
    else None

abbrev pub algorithm_in : Members → Option AlgorithmKind
algorithm_in t = algorithm_named (text_or (codes "algorithm") [] t)

abbrev pub watch_in : Members → Option Watch
watch_in d = watch_named (text_or (codes "watch") (codes "all") d)

abbrev pub timeout_of : Members → TimeoutNumbers
timeout_of d = record {
  period = number_at (codes "period") 0 d;
  check = number_at (codes "check") 0 d;
  timeout = number_at (codes "timeout") 0 d;
  grow = number_at (codes "grow") 1 d;
  watch = unwrap_or (watch_in d) watch.All;
}

abbrev pub freshness_of : Members → FreshnessNumbers
freshness_of d = record {
  eta = number_at (codes "eta") 0 d;
  delta = number_at (codes "delta") 0 d;
  watch = unwrap_or (watch_in d) watch.All;
}

abbrev pub detector_of : Members → DetectorNumbers
detector_of d = if is_fresh d then numbers.Freshness (freshness_of d) else numbers.Timeout (timeout_of d)

abbrev pub share_of : Members → ℕ
share_of s = number_at (codes "period") 0 s

-- what `link` or a table of `links` says of letters
abbrev pub delays_of : Members → Link
delays_of l = record {
  min = number_at (codes "min") 0 l;
  max = number_at (codes "max") 0 l;
  loss = number_at (codes "loss") 0 l;
}

-- the pair of a table of `links` or of `outage`
abbrev pub pair_of : Members → ℕ × ℕ
pair_of l = (number_at (codes "from") 0 l, number_at (codes "to") 0 l)

abbrev pub same_pair : ℕ × ℕ → ℕ × ℕ → Bool
same_pair a b = (a.0 == b.0) && (a.1 == b.1)

-- the link of a pair: that of its table where it has one, else the common link
unfoldable pub link_among : Link → List Members → ℕ × ℕ → Link
link_among common tables pair = unwrap_or (option_map delays_of (find (λ l. same_pair (pair_of l) pair) tables)) common

-- the links from each of 1 to n to each, by sender and then by receiver
unfoldable pub links_among : Link → List Members → ℕ → List Link
links_among common tables n =
    flat_map (λ from. map (λ to. link_among common tables (from, to)) (range_with_len 1 n)) (range_with_len 1 n)

-- the outage of a table of `outage`
abbrev pub outage_of : Members → Outage
outage_of o = record { begin = number_at (codes "begin") 0 o; until = number_at (codes "until") 0 o }

-- the outages of a pair, in the order of their tables
unfoldable pub pair_outages : List Members → ℕ × ℕ → List Outage
pair_outages tables pair = map outage_of (filter (λ o. same_pair (pair_of o) pair) tables)

-- those of the link from each of 1 to n to each, by sender and then by receiver
abbrev pub each_pairs_outages : List Members → ℕ → List (List Outage)
each_pairs_outages tables n =
    flat_map (λ from. map (λ to. pair_outages tables (from, to)) (range_with_len 1 n)) (range_with_len 1 n)

-- the same; nothing where there are no tables
unfoldable pub outages_among : List Members → ℕ → List (List Outage)
outages_among [] n = []
outages_among tables n = each_pairs_outages tables n

-- what the processes propose, of process 1 first
abbrev pub proposals_of : Members → List ℕ
proposals_of t = map natural (integers_at (codes "proposals") t)

-- the process of a table of `crash`
abbrev pub crash_process : Members → ℕ
crash_process c = number_at (codes "process") 0 c

-- the tick of a table of `crash`
abbrev pub crash_tick : Members → ℕ
crash_tick c = number_at (codes "at") 0 c

-- the tick at which a process crashes: that of its table, if it has one
unfoldable pub crash_among : List Members → ℕ → Option ℕ
crash_among tables p = option_map crash_tick (find (λ c. crash_process c == p) tables)

unfoldable pub crashes_among : List Members → ℕ → List (Option ℕ)
crashes_among tables n = map (crash_among tables) (range_with_len 1 n)

abbrev pub processes_of : Members → ℕ
processes_of t = number_at (codes "processes") 0 t

-- the record that a table stands for
abbrev pub record_of : Members → Record
record_of t = record {
  processes = processes_of t;
  horizon = number_at (codes "horizon") 0 t;
  lookahead = number_at (codes "lookahead") 0 t;
  limit = number_at (codes "limit") 1000000 t;
  seed = number_at (codes "seed") 0 t;
  algorithm = unwrap_or (algorithm_in t) kind.Idle;
  detector = detector_of (table_or_empty (codes "detector") t);
  share = option_map share_of (table_at (codes "share") t);
  proposals = proposals_of t;
  crashes = crashes_among (tables_at (codes "crash") t) (processes_of t);
  links = links_among (delays_of (table_or_empty (codes "link") t)) (tables_at (codes "links") t) (processes_of t);
  outages = outages_among (tables_at (codes "outage") t) (processes_of t);
}
