-- Words of private functions.
use Rattle.std.specs.Prelude.{◌≡◌, ℕ, suc, ◌<◌, List, length, ◌/◌, ◌%◌, min, slice_index, ◌-◌, ◌≤◌, Bool, not}
use Rattle.{scenario_record.specs.Record.{Record}, judges.specs.{declared.{pair.Pair.{Pair}, track.Track.{Track}}, Turns.{opened, end_tick}, Track.{any_below, before}}}

-- the state stood from `since` up to the tick, and was another before
pub record IsSteady (suspected : ℕ → Bool) (was : Bool) (since tick : ℕ) : Type 0 where
  pub below : since ≤ tick - 1
  pub on : (u : ℕ) → since ≤ u → u < tick → suspected u ≡ was
  pub not_before : (v : ℕ) → since ≡ suc v → suspected v ≡ not was

-- a suspicion is a mistake below an end
pub record Knows (suspected : ℕ → Bool) (end : ℕ) (t : Track) : Type 0 where
  pub was : t.was ≡ before suspected t.tick
  pub steady : IsSteady suspected t.was t.since t.tick
  pub mistaken : t.mistaken ≡ any_below suspected (min t.tick end)

-- of processes 1 to n
pub record AreEnds (S : Record) (ends : List ℕ) : Type 0 where
  pub count : length ends ≡ S.processes
  pub ticks : (i : ℕ) → i < S.processes → slice_index ends i ≡ end_tick S (suc i)

-- a pair as it opens, by observer and then by subject
abbrev pub opened_at : {K : Type 0} → (ends : List ℕ) → (kept : K) → ℕ → Pair K
opened_at ends kept k = opened (min (slice_index ends (k / length ends)) (slice_index ends (k % length ends))) kept
