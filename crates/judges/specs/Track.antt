-- The steps of a track, what it knows of a pair whose suspicion is given tick by tick, and quantifiers below an end.
use Rattle.std.specs.Prelude.{◌≡◌, ℕ, zero, suc, ◌<◌, min, max, Bool, false, ◌&&◌, ◌||◌, if◌then◌else◌, nat_lt, nat_le, Option, None, Some, true}
use mathlib.Core.Bool.{beq}
use Rattle.judges.specs.declared.track.Track.{Track}

-- whether all of 0 to end - 1 pass, and whether one does
abbrev pub all_below : (ℕ → Bool) → (end : ℕ) → Bool
all_below test zero = true
all_below test (suc t) = test t && all_below test t

abbrev pub any_below : (ℕ → Bool) → (end : ℕ) → Bool
any_below test zero = false
any_below test (suc t) = test t || any_below test t

-- whether all of start to end - 1 pass
abbrev pub all_from : (ℕ → Bool) → (start end : ℕ) → Bool
all_from test start end = all_below (λ t. nat_lt t start || test t) end

-- the least of 0 to end - 1 that passes
abbrev pub first_of : Option ℕ → Option ℕ → Option ℕ
first_of None later = later
first_of (Some t) later = Some t

abbrev pub least_below : (ℕ → Bool) → (end : ℕ) → Option ℕ
least_below test zero = None
least_below test (suc t) = first_of (least_below test t) (if test t then Some t else None)

-- the least tick below end from which on, up to end - 1, all pass
abbrev pub least_from : (ℕ → Bool) → (end : ℕ) → Option ℕ
least_from test end = least_below (λ t. all_from test t end) end

-- the test one tick earlier; before tick 0 nothing passes
abbrev pub before : (ℕ → Bool) → ℕ → Bool
before test zero = false
before test (suc t) = test t

-- no tick is behind
abbrev pub new_track : Track
new_track = record { tick = 0; was = false; since = 0; mistaken = false }

-- the ticks up to another are behind, and through them there is suspicion or there is none
abbrev pub gone : (until : ℕ) → (suspected : Bool) → (end : ℕ) → Track → Track
gone until suspected end t = record {
  tick = until;
  was = suspected;
  since = if beq suspected t.was then t.since else t.tick;
  mistaken = t.mistaken || (suspected && nat_lt t.tick end);
}

abbrev pub passed : (until : ℕ) → (suspected : Bool) → (end : ℕ) → Track → Track
passed until suspected end t = if nat_lt t.tick until then gone until suspected end t else t

abbrev pub suspected_from : Track → Option ℕ
suspected_from t = if t.was then Some t.since else None

abbrev pub trusted_from : Track → Option ℕ
trusted_from t = if t.was then None else Some t.since

-- whether a tick is at or after the one given, if one is
abbrev pub reached : Option ℕ → ℕ → Bool
reached None t = false
reached (Some s) t = nat_le s t

-- of the ticks below an end, a test passes just from one on, or at none
abbrev pub IsReached : (ℕ → Bool) → (end : ℕ) → Option ℕ → Type 0
IsReached test end o = (t : ℕ) → t < end → test t ≡ reached o t

-- the later of two, where none is later than all, and the earlier
abbrev pub latest : Option ℕ → Option ℕ → Option ℕ
latest None b = None
latest (Some x) None = None
latest (Some x) (Some y) = Some (max x y)

abbrev pub earliest : Option ℕ → Option ℕ → Option ℕ
earliest None b = b
earliest (Some x) None = Some x
earliest (Some x) (Some y) = Some (min x y)

-- of 0 to end - 1
abbrev pub latest_below : (ℕ → Option ℕ) → (end : ℕ) → Option ℕ
latest_below o zero = Some 0
latest_below o (suc i) = latest (latest_below o i) (o i)

abbrev pub earliest_below : (ℕ → Option ℕ) → (end : ℕ) → Option ℕ
earliest_below o zero = None
earliest_below o (suc i) = earliest (earliest_below o i) (o i)
