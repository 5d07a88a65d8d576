-- What a detector's tables stand for.
use Rattle.std.specs.{Prelude.{◌≡◌, ℕ, false, nat_le, List, Option, None, slice_index_or}, Option.{option_map_or}}
use Rattle.std.specs.FinSet as set
use Rattle.{process_api.specs.{Freshness.{FreshnessState, suspected}, Sets.{Processes}, declared.numbers.FreshnessNumbers.{FreshnessNumbers}}, scenario_record.specs.{Opening.{place_of}, declared.opening.Opening.{Opening}}}

-- latest: for each process the greatest number of its heartbeats that came, if one did
abbrev pub state_by : (sent reached : ℕ) → (latest : List (Option ℕ)) → FreshnessState
state_by sent reached latest = record {
  sent = sent;
  reached = reached;
  came = λ q i. option_map_or (nat_le i) (slice_index_or latest q None) false;
}

-- these are the suspects of a detector in this state
abbrev pub AreSuspects : Opening → FreshnessNumbers → FreshnessState → Processes → Type 0
AreSuspects o numbers s suspects = (q : ℕ) → set.contains suspects q ≡ set.contains (suspected (place_of o) numbers s) q
