-- What a run leaves with whoever took its entries, and when it is refused.
use Rattle.std.specs.Prelude.{◌≡◌, ◌⊎◌, ℕ, ◌≤◌, ◌<◌, List, ◌++◌, length, take, IsTrue}
use Rattle.{process_api.specs.{Order.{EntryRecord, is_rising}, Mind.{Mind}, declared.run_error.RunError.{RunError, TheVariants.{Limit, Memory}}}, trace_laws.specs.{Setting.{Setting}, World.{IsTrace}, History.{HasCauses, TakesOnce}}}

-- whatever was taken before, these entries were taken after it, in this order and nothing else
abbrev pub WereTaken : (old new : List EntryRecord → Type 0) → List EntryRecord → Type 0
WereTaken old new entries = (before : List EntryRecord) → old before → new (before ++ entries)

-- the whole trace was taken, and has at most so many entries
pub record IsRecorded (S : Setting Mind) (limit : ℕ) (old new : List EntryRecord → Type 0) : Type 0 where
  pub trace : List EntryRecord
  pub is_trace : IsTrace S trace
  pub rising : IsTrue (is_rising trace)
  pub cause : HasCauses S trace
  pub once : TakesOnce S trace
  pub within : length trace ≤ limit
  pub taken : WereTaken old new trace

-- of a longer trace just the first so many entries were taken
abbrev pub IsCutShort : (S : Setting Mind) (limit : ℕ) (old new : List EntryRecord → Type 0) → Type 0
IsCutShort S limit old new = (whole : List EntryRecord) → IsTrace S whole → WereTaken old new (take limit whole)

-- every trace is longer than so many entries
abbrev pub IsTooLong : (S : Setting Mind) (limit : ℕ) → Type 0
IsTooLong S limit = (whole : List EntryRecord) → IsTrace S whole → limit < length whole

-- of a follower, by what it was told before and by what it was told since
abbrev pub WasTold : {F : Type 0} (followed : F → F → List EntryRecord → Type 0) (old new : F)
    → ((old new : List EntryRecord → Type 0) → Type 0) → Type 0
WasTold followed old new Has = Has (followed old old) (followed old new)

-- why a run is refused
abbrev pub IsRefusal : RunError → Type 0
IsRefusal e = (e ≡ Limit) ⊎ (e ≡ Memory)
