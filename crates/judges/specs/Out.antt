-- Whom a process suspects by a trace's notes: a detector's output (Chen, Toueg, Aguilera, IEEE Trans. Computers, 2002).
use Rattle.std.specs.Prelude.{ℕ, Bool, true, false, ◌&&◌, ◌==◌, nat_le, if◌then◌else◌, List, [], ◌∷◌, ◌++◌, fold, ◌≡◌, ◌≤◌, suc, min, nat_lt, not, unwrap_or}
use Rattle.{process_api.specs.{Order.{EntryRecord, is_before}, declared.action.Note.{Note, TheVariants.{Suspect, Trust, Round, Decided, NoValue}}}, scenario_record.specs.Record.{Record, crash}, trace_laws.specs.History.{IsIn}}

-- a set of processes, as the test of its members
abbrev pub Set : Type 0
Set = ℕ → Bool

abbrev pub nobody : Set
nobody = λ p. false

abbrev pub with : Set → ℕ → Set
with set who = λ p. if who == p then true else set p

abbrev pub without : Set → ℕ → Set
without set who = λ p. if who == p then false else set p

-- the notes of process q up to and with tick t, in order
abbrev pub notes_until : List EntryRecord → (q t : ℕ) → List Note
notes_until [] q t = []
notes_until (entry ∷ trace) q t = if entry.key.receiver == q && nat_le entry.key.tick t
    then entry.notes ++ notes_until trace q t
    else notes_until trace q t

module _ (layer : ℕ) where
  -- the suspects after one more note: on its layer a suspicion adds one, a trust takes one away
  abbrev pub after_note : Set → Note → Set
  after_note set (Suspect l who) = if l == layer then with set who else set
  after_note set (Trust l who) = if l == layer then without set who else set
  after_note set (Round r) = set
  after_note set (Decided v) = set
  after_note set NoValue = set

  -- the suspects of q on the layer after its last entry of tick at most t
  abbrev pub out : List EntryRecord → (q t : ℕ) → Set
  out trace q t = fold after_note nobody (notes_until trace q t)

  -- whether q suspects p, tick by tick
  abbrev pub suspects : List EntryRecord → (q p : ℕ) → (t : ℕ) → Bool
  suspects trace q p t = out trace q t p

-- some entry notes that its process suspects p on layer 1, at tick t or before
abbrev pub IsBlamedBy : List EntryRecord → (p t : ℕ) → Type 0
IsBlamedBy trace p t = (e : EntryRecord) × IsIn e trace × (e.key.tick ≤ t) × IsIn (Suspect 1 p) e.notes

-- each entry that notes a suspicion of layer 2 has an earlier one, by key, that notes one of its process on layer 1
abbrev pub SharesSuspicions : List EntryRecord → Type 0
SharesSuspicions trace = (e : EntryRecord) → IsIn e trace → (p : ℕ) → IsIn (Suspect 2 p) e.notes
    → (earlier : EntryRecord) × IsIn earlier trace × (is_before earlier.key e.key ≡ true)
    × IsIn (Suspect 1 p) earlier.notes

-- who has crashed, and when a suspicion is a mistake
module _ (s : Record) where
  -- a process that never crashes counts as one that crashes after the horizon
  abbrev pub crash_tick : ℕ → ℕ
  crash_tick p = unwrap_or (crash s p) (suc s.horizon)

  -- whether a process hasn't crashed yet at a tick
  abbrev pub is_up : (p t : ℕ) → Bool
  is_up p t = nat_lt t (crash_tick p)

  -- whether a process crashes below the horizon, or doesn't
  abbrev pub is_crashed : ℕ → Bool
  is_crashed p = nat_lt (crash_tick p) s.horizon

  abbrev pub is_correct : ℕ → Bool
  is_correct p = not (is_crashed p)

  -- a suspicion of p by q is a mistake at ticks below this one
  abbrev pub end_of : (q p : ℕ) → ℕ
  end_of q p = min (min (crash_tick p) (crash_tick q)) s.horizon
