-- What the laws of the event list say of a setting.
use Rattle.std.specs.{Prelude.{◌≡◌, ℕ, List, []}, declared.cmp.Ordering.TheVariants.{Less}}
use Rattle.process_api.specs.{Order.{EntryRecord, key_cmp}, declared.{key.Key.{Key}, message.StepInput.{StepInput}}}
use Rattle.trace_laws.specs.{Setting.{Setting}, World.{World, Pair, Run, IsLeast, IsWorld, opening, opening_process, taken, entries, IsTrace, plain_starts, plain_steps, plain_left}, History.{IsIn, IsOnly, IsClosed, IsStart, IsCauseOf}}

module _ {Mind : Type 0} (S : Setting Mind) where
  -- the opening is a world, and each step of the list keeps it one
  abbrev pub StaysAWorld : Type 0
  StaysAWorld = IsWorld S (opening S)
      × ((w : World Mind) (key : Key) (input : StepInput)
      → IsWorld S w → IsLeast w.pending key input → IsWorld S (taken S w key input))

  -- there is one trace
  abbrev pub HasOneTrace : Type 0
  HasOneTrace = (trace : List EntryRecord) × IsOnly (IsTrace S) trace

  -- the trace with its inputs is a closed history
  abbrev pub TraceIsClosed : Type 0
  TraceIsClosed = (history : List Pair) (last : World Mind)
      → Run S S.horizon (opening S) history last → IsClosed S history

  -- every closed history has the entries of the trace
  abbrev pub HasOnlyHistory : Type 0
  HasOnlyHistory = (history : List Pair) → IsClosed S history
      → (trace : List EntryRecord) → IsTrace S trace → entries history ≡ trace

  -- every pair whose event is no start has just one cause, an earlier pair
  abbrev pub HasOneCause : Type 0
  HasOneCause = (history : List Pair) → IsClosed S history
      → (t : Pair) → IsIn t history → ¬ (IsStart S t.0.key t.1)
      → (c : Pair) × IsIn c history × (key_cmp c.0.key t.0.key ≡ Less)
      × IsOnly (λ d. IsCauseOf S history d t.0.key t.1) c

  -- every event that a step adds is taken just once
  abbrev pub IsTakenOnce : Type 0
  IsTakenOnce = (history : List Pair) → IsClosed S history
      → (c : Pair) (key : Key) (input : StepInput) → IsCauseOf S history c key input
      → (t : Pair) × (t.1 ≡ input) × IsOnly (λ u. IsIn u history × (u.0.key ≡ key)) t

  -- where the plain program comes to an end, it has made the trace
  abbrev pub PlainMakesTrace : Type 0
  PlainMakesTrace = (n : ℕ) → plain_left S n (opening_process S) (plain_starts S.processes) ≡ []
      → IsTrace S (entries (plain_steps S n (opening_process S) (plain_starts S.processes)))
