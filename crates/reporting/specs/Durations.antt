-- How long mistakes were, pair by pair, as all pairs of a layer are counted.
use Rattle.std.specs.{Prelude.{◌≡◌, ℕ, suc, ◌+◌, ◌-◌, ◌*◌, ◌<◌, ◌&&◌, Bool, if◌then◌else◌, nat_le, nat_lt, Option, None, Some, List, [], ◌∷◌, ◌++◌, length, map, get_or}, Global.{Vec}}
use Rattle.{process_api.specs.Order.{EntryRecord}, scenario_record.specs.Record.{Record}, judges.specs.{Turns.{kept_at, opened}, Pairs.{fed}, declared.{pair.Pair.{Pair}, pairs.Pairs.{Pairs}}}}
use Rattle.reporting.specs.{Measures.{pair_durations}, Tally.{counted, new_tally}, declared.{durations.Durations.{Durations}, tally.Tally.{Tally}}}

-- from a start to an end, if there are both
abbrev pub ticks_between : (started ended : Option ℕ) → ℕ
ticks_between None ended = 0
ticks_between (Some s) None = 0
ticks_between (Some s) (Some t) = t - s

-- the lengths with one more, where the tally has counted one more mistake that ended
abbrev pub caught : Tally → List ℕ → List ℕ
caught t lengths =
    if nat_lt (length lengths) t.duration.count then lengths ++ ticks_between t.started t.ended ∷ [] else lengths

-- a tally beside which lengths are kept
abbrev pub listed : (until : ℕ) → (suspected : Bool) → (end : ℕ) → Tally × List ℕ → Tally × List ℕ
listed until suspected end k = (counted until suspected end k.0, caught (counted until suspected end k.0) k.1)

-- what is counted of the pair at a place, so far or as no entry follows
abbrev pub pair_at : Pairs Tally → (place : ℕ) → Pair Tally
pair_at pairs place = get_or pairs.pairs.items place (opened 0 new_tally)

abbrev pub tally_at : Pairs Tally → (closed : Bool) → (place : ℕ) → Tally
tally_at pairs closed place =
    if closed then kept_at counted pairs.horizon (pair_at pairs place) else (pair_at pairs place).kept

-- what each of some vectors holds
abbrev pub lists_in : List (Vec ℕ) → List (List ℕ)
lists_in vectors = map (λ (v : Vec ℕ). v.items) vectors

-- the lengths at these places were brought up to the tallies
pub record AreCaught (pairs : Pairs Tally) (closed : Bool) (from end : ℕ) (old new : List (List ℕ)) : Type 0 where
  pub count : length new ≡ length old
  pub each : (k : ℕ) → k < length old
      → get_or new k []
      ≡ (if nat_le from k && nat_lt k end then caught (tally_at pairs closed k) (get_or old k []) else get_or old k [])

-- each pair has its lengths
pub record HasLengths (S : Record) (lengths : (q p : ℕ) → List ℕ) (d : Durations) : Type 0 where
  pub processes : d.processes ≡ S.processes
  pub count : length d.pairs.items ≡ S.processes * S.processes
  pub each : (i j : ℕ) → i < S.processes → j < S.processes
      → get_or (lists_in d.pairs.items) (i * S.processes + j) [] ≡ lengths (suc i) (suc j)

module _ (S : Record) (layer : ℕ) (trace : List EntryRecord) where
  -- those that are known while entries still come
  abbrev pub lengths_so_far : (q p : ℕ) → List ℕ
  lengths_so_far q p = (fed listed S layer q p (new_tally, []) trace).kept.1

  abbrev pub AreFollowing : Durations → Type 0
  AreFollowing d = HasLengths S lengths_so_far d

  abbrev pub AreDurations : Durations → Type 0
  AreDurations d = HasLengths S (pair_durations S trace layer) d

-- the lengths of observer q and subject p
abbrev pub lengths_of : Durations → (q p : ℕ) → List ℕ
lengths_of d q p = get_or (lists_in d.pairs.items) ((q - 1) * d.processes + (p - 1)) []
