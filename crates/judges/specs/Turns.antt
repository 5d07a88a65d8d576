-- The turns of a pair, where its observer's notes say that suspicion begins or ends, and what is kept of it.
use mathlib.Core.Bool.{beq}
use Rattle.std.specs.Prelude.{◌≡◌, ℕ, suc, ◌+◌, ◌*◌, ◌<◌, Bool, List, [], ◌∷◌, get_or, false, if◌then◌else◌, length, fold, true, ◌&&◌, ◌==◌, nat_lt, Option, None, Some, flat_map, min}
use Rattle.{process_api.specs.{Order.{EntryRecord}, declared.action.Note.{Note, TheVariants.{Suspect, Trust, Round, Decided, NoValue}}}, scenario_record.specs.Record.{Record}}
use Rattle.judges.specs.{Out.{crash_tick}, Track.{passed}, declared.pair.Pair.{Pair}}

-- from a tick on there is suspicion, or there is none
pub record Turn : Type 0 where
  pub tick : ℕ
  pub suspected : Bool

-- whom a note says that its process suspects on a layer from now on, or suspects no longer
abbrev pub turn_of : (layer : ℕ) → Note → Option (ℕ × Bool)
turn_of layer (Suspect l who) = if l == layer then Some (who, true) else None
turn_of layer (Trust l who) = if l == layer then Some (who, false) else None
turn_of layer (Round r) = None
turn_of layer (Decided v) = None
turn_of layer NoValue = None

-- the turn of subject p that one note makes, if it is of p
abbrev pub turns_at : (p tick : ℕ) → Option (ℕ × Bool) → List Turn
turns_at p tick None = []
turns_at p tick (Some t) = if t.0 == p then record { tick = tick; suspected = t.1 } ∷ [] else []

-- the turns of p that the notes of its observer at a tick make
abbrev pub noted_turns : (layer p tick : ℕ) → List Note → List Turn
noted_turns layer p tick notes = flat_map (λ note. turns_at p tick (turn_of layer note)) notes

-- the turns of observer q and subject p that an entry makes, if q takes it below the horizon
abbrev pub entry_turns : (layer q p horizon : ℕ) → EntryRecord → List Turn
entry_turns layer q p horizon entry = if entry.key.receiver == q && nat_lt entry.key.tick horizon
    then noted_turns layer p entry.key.tick entry.notes
    else []

-- the turns that a trace makes, in its order
abbrev pub turns : (layer q p horizon : ℕ) → List EntryRecord → List Turn
turns layer q p horizon trace = flat_map (entry_turns layer q p horizon) trace

-- nothing is suspected yet
abbrev pub opened : {K : Type 0} → (end : ℕ) → (kept : K) → Pair K
opened end kept = record { end = end; current = false; kept = kept }

-- `passed` takes the kept value on from its tick up to another, through which there is suspicion or there is none
module _ {K : Type 0} (passed : (until : ℕ) → (suspected : Bool) → (end : ℕ) → K → K) where
  -- only a change moves what is kept
  abbrev pub turned : (tick : ℕ) → (suspected : Bool) → Pair K → Pair K
  turned tick suspected p = if beq suspected p.current
      then p
      else record p { current = suspected; kept = passed tick p.current p.end p.kept }

  abbrev pub all_turned : Pair K → List Turn → Pair K
  all_turned p turns = fold (λ q t. turned t.tick t.suspected q) p turns

  -- what is kept, once all ticks below a horizon are behind
  abbrev pub kept_at : (horizon : ℕ) → Pair K → K
  kept_at horizon p = passed horizon p.current p.end p.kept

  -- the pairs of n processes, by observer and then by subject, after more turns of each
  pub record AreTurned (n : ℕ) (old new : List (Pair K)) (turns : (q p : ℕ) → List Turn) : Type 0 where
    pub count : length new ≡ length old
    pub each : (i j : ℕ) (d : Pair K) → i < n → j < n
        → get_or new (i * n + j) d ≡ all_turned (get_or old (i * n + j) d) (turns (suc i) (suc j))

-- up to which tick a process is up, cut at the horizon
abbrev pub end_tick : Record → (p : ℕ) → ℕ
end_tick S p = min (crash_tick S p) S.horizon
