-- What no run of a scenario breaks, in numbers. The links by which processes watch each other.
use Rattle.std.specs.{Prelude.{ℕ, ◌+◌, ◌-◌, ◌==◌, max, nat_le, Bool, false, not, ◌&&◌, ◌||◌, List, filter, flat_map, map, length, if◌then◌else◌, Option, None, filter_map, count_by, option_map}, List.{list_any, reduce, range_with_len}}
use Rattle.{std.specs.Option.{option_map_or}, process_api.specs.{Place.{is_watched}, declared.numbers.DetectorNumbers.{DetectorNumbers, TheVariants.{Timeout, Freshness}}}}
use Rattle.{scenario_record.specs.{Record.{Record, crash, link, outages_on}, declared.link.Link.{Link}}, judges.specs.Out.{is_correct, is_crashed}, detector_bounds.specs.Detected.{detected_by, watch_of}}
use Rattle.promised.specs.declared.{bounds.PromisedBounds.{PromisedBounds}, watching.WatchedLink.{WatchedLink}}

module _ (S : Record) where
  -- the crash of p that q is to detect: p crashes before the horizon, and q doesn't
  abbrev pub crash_for : (q p : ℕ) → Option ℕ
  crash_for q p = if is_correct S q && is_crashed S p then crash S p else None

  -- the link by which q watches p
  abbrev pub watched_link : (q p : ℕ) → WatchedLink
  watched_link q p = record {
    link = link S p q;
    has_outage = not (length (outages_on S p q) == 0);
    crash = crash_for q p;
  }

  -- whom q watches
  abbrev pub watched_by : (q : ℕ) → List ℕ
  watched_by q = filter (is_watched q S.processes (watch_of S.detector)) (range_with_len 1 S.processes)

  -- the links by which q watches others
  abbrev pub links_to : (q : ℕ) → List WatchedLink
  links_to q = map (watched_link q) (watched_by q)

  -- all links by which processes watch others
  abbrev pub watched_links : List WatchedLink
  watched_links = flat_map links_to (range_with_len 1 S.processes)

-- the greatest of some numbers; none where there are none
abbrev pub greatest : List ℕ → Option ℕ
greatest = reduce max

-- a link may lose letters
abbrev pub loses : WatchedLink → Bool
loses w = not (w.link.loss == 0) || w.has_outage

-- the least `delta` or `timeout` with which a link is timely
abbrev pub needed : DetectorNumbers → Link → ℕ
needed (Timeout its) link = max link.max (link.max - link.min + its.period)
needed (Freshness its) link = link.max

-- the detector's `delta` or `timeout`
abbrev pub patience : DetectorNumbers → ℕ
patience (Timeout its) = its.timeout
patience (Freshness its) = its.delta

module _ (d : DetectorNumbers) where
  abbrev pub is_timely : Link → Bool
  is_timely link = nat_le (needed d link) (patience d)

  -- a link surely brings no mistake
  abbrev pub is_reliable : WatchedLink → Bool
  is_reliable w = not (loses w) && is_timely w.link

  -- how long after its crash a link's sender is suspected to the end, where there is a crash to be detected
  abbrev pub latency : WatchedLink → Option ℕ
  latency w = option_map (λ crash. detected_by d w.link 0 crash - crash) w.crash

  -- that comes at the horizon or later
  abbrev pub is_late : (horizon : ℕ) → WatchedLink → Bool
  is_late horizon w = option_map_or (λ crash. nat_le horizon (detected_by d w.link 0 crash)) w.crash false

module _ (S : Record) where
  -- the links that lose no letters
  abbrev pub lossless : List WatchedLink
  lossless = filter (λ w. not (loses w)) (watched_links S)

  abbrev pub promised : PromisedBounds
  promised = record {
    detection = greatest (filter_map (latency S.detector) (watched_links S));
    is_late = list_any (is_late S.detector S.horizon) (watched_links S);
    watched = length (watched_links S);
    reliable = count_by (is_reliable S.detector) (watched_links S);
    lossy = count_by loses (watched_links S);
    needed = greatest (map (λ w. needed S.detector w.link) lossless);
  }
