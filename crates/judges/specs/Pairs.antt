-- What it is that all pairs were fed with the entries of a trace, and how they open.
use Rattle.std.specs.Prelude.{◌≡◌, ℕ, suc, ◌+◌, ◌*◌, ◌<◌, ◌≤◌, Bool, List, [], ◌∷◌, ◌++◌, get_or, IsTrue}
use Rattle.{process_api.specs.Order.{EntryRecord, is_rising}, scenario_record.specs.Record.{Record}, judges.specs.{Out.{end_of}, Track.{new_track, passed}, Outcomes.{outcomes}, Turns.{all_turned, opened, turns}}}
use Rattle.judges.specs.declared.{pair.Pair.{Pair}, pairs.Pairs.{Pairs}, outcomes.RunningOutcomes.{RunningOutcomes}, running.RunningJudge.{RunningJudge}}

-- no entry comes after this tick
abbrev pub AreUntil : List EntryRecord → (last : ℕ) → Type 0
AreUntil [] last = Unit {0}
AreUntil (entry ∷ trace) last = (entry.key.tick ≤ last) × AreUntil trace last

-- the entries come in the order of their ticks, none before this one
abbrev pub AreFrom : (first : ℕ) → List EntryRecord → Type 0
AreFrom first [] = Unit {0}
AreFrom first (entry ∷ trace) = (first ≤ entry.key.tick) × AreFrom entry.key.tick trace

-- whatever it was fed with before, it was fed with this entry after it, of no earlier tick
abbrev pub WasFed : {F : Type 0} (fed : List EntryRecord → F → Type 0) → EntryRecord → (old new : F) → Type 0
WasFed fed entry old new = (trace : List EntryRecord)
    → fed trace old → AreUntil trace entry.key.tick → fed (trace ++ entry ∷ []) new

module _ {K : Type 0} (passed : (until : ℕ) → (suspected : Bool) → (end : ℕ) → K → K) where
  -- a pair that opened so, after its turns in a trace
  abbrev pub fed : Record → (layer q p : ℕ) → (kept : K) → List EntryRecord → Pair K
  fed S layer q p kept trace = all_turned passed (opened (end_of S q p) kept) (turns layer q p S.horizon trace)

  pub record ArePairs (S : Record) (layer : ℕ) (kept : K) (trace : List EntryRecord) (pairs : Pairs K) : Type 0 where
    pub same_layer : pairs.layer ≡ layer
    pub processes : pairs.processes ≡ S.processes
    pub horizon : pairs.horizon ≡ S.horizon
    pub lasts : 0 < S.horizon
    pub in_order : AreFrom 0 trace
    pub each : (i j : ℕ) (d : Pair K) → i < S.processes → j < S.processes
        → get_or pairs.pairs.items (i * S.processes + j) d ≡ fed S layer (suc i) (suc j) kept trace

-- ---- what it is that a judge, or outcomes, were fed with the entries of a trace

-- its tracks are those of all pairs
abbrev pub IsJudging : Record → (layer : ℕ) → List EntryRecord → RunningJudge → Type 0
IsJudging S layer trace judge = ArePairs passed S layer new_track trace judge.pairs

-- the outcomes of processes 1 to n
abbrev pub IsDeciding : (n : ℕ) (trace : List EntryRecord) → RunningOutcomes → Type 0
IsDeciding n trace running = running.outcomes.items ≡ outcomes trace n

-- whoever was fed with nothing, and was told these entries in the order of their keys, was fed with them
abbrev pub HasFollowed : {F : Type 0} (fed : Record → (layer : ℕ) → List EntryRecord → F → Type 0)
    → (first now : F) → List EntryRecord → Type 0
HasFollowed fed first now told =
    (S : Record) (layer : ℕ) → fed S layer [] first → IsTrue (is_rising told) → fed S layer told now
