-- What a diagnosis says of a file: places in its text, by the bytes before them, and which key is perhaps meant.
use Rattle.std.specs.{Prelude.{◌≡◌, ℕ, ◌≤◌, ◌*◌, ◌/◌, min, List, length, take, false, Option, Some, None, string_bytes, ◌+◌, [], ◌∷◌, Bool, if◌then◌else◌, ◌==◌, ◌<◌, max, nat_eq, true}, Borrow.{Bor}, List.{filter, list_any, Contains}}
use Rattle.{std.specs.{Fmt.{char_count}, Str.{chars}}, toml.specs.Data.{Members}, strsim.specs.Edits.{damerau}, scenario_record.specs.Record.{Record}}
use Rattle.scenario.specs.{Text.{record_of}, Refusals.{Accepts, Refuses, IsDocumentOf, is_memory, refusal_of}, Parts.{fields_of}, Faults.{Breaks}, Table.{Field, same_text}}
use Rattle.scenario.specs.declared.{finding.Finding.{Finding}, error.ScenarioError.{ScenarioError}}
use Rattle.scenario.specs.declared.fault.Fault.TheVariants as fault
use Rattle.scenario.specs.declared.finding.Finding.TheVariants as finding
use Rattle.scenario.specs.declared.error.ScenarioError.TheVariants as error
use Rattle.diagnosis.specs.{Text.{Reason, no_toml, found, nothing, told_text}, declared.{told.NotToml.{NotToml}, answer.{Accepted.{Accepted}, Refused.{Refused}, Diagnosis.{Diagnosis}}}}
use Rattle.diagnosis.specs.declared.answer.Diagnosis.TheVariants as diagnosis

-- how many edits lead from one text to the other: characters put in, taken out, changed, or two of them swapped
abbrev pub edits_of : Bool → List ℕ → List ℕ → ℕ
edits_of true xs ys = 0
edits_of false [] ys = length ys
edits_of false (x ∷ xs) [] = length (x ∷ xs)
edits_of false (x ∷ xs) (y ∷ ys) = damerau nat_eq (x ∷ xs) (y ∷ ys)

abbrev pub edits : List ℕ → List ℕ → ℕ
edits a b = edits_of (same_text a b) (chars a) (chars b)

-- how many edits away a key may be that is perhaps meant: one for each three bytes, and one at least
abbrev pub most_edits : List ℕ → ℕ
most_edits key = max 3 (length key) / 3

-- the key is one of the table's, so near, and none of the table's is nearer
pub record IsNearest (fields : List Field) (key near : List ℕ) : Type 0 where
  pub field : Field
  pub listed : Contains fields field
  pub named : field.key ≡ near
  pub near_enough : edits key near ≤ most_edits key
  pub nearest : (other : Field) → Contains fields other → edits key near ≤ edits key other.key

-- one of the nearest keys, or none where none is near enough
abbrev pub IsMeant : List Field → List ℕ → Option (Bor (List ℕ)) → Type 0
IsMeant fields key (Some near) = IsNearest fields key near.now
IsMeant fields key None = (other : Field) → Contains fields other → most_edits key < edits key other.key

abbrev pub is_line_feed : ℕ → Bool
is_line_feed byte = byte == 10

-- what stands after the last line feed, if there is one, and else all
unfoldable pub last_line : List ℕ → List ℕ
last_line [] = []
last_line (b ∷ text) = if list_any is_line_feed (b ∷ text) then last_line text else b ∷ text

-- the line of the place, from 1
abbrev pub line_after : List ℕ → ℕ
line_after before = 1 + length (filter is_line_feed before)

-- its column, from 1: a column is a character
abbrev pub column_after : List ℕ → ℕ
column_after before = 1 + char_count (last_line before)

-- a key is meant only by one that isn't its table's, and then it is one of the nearest
abbrev pub IsMeantIn : Finding → (meant : Option (Bor (List ℕ))) → Type 0
IsMeantIn (finding.At at (fault.UnknownKey u)) meant = IsMeant (fields_of u.fields.now) u.key.now meant
IsMeantIn _ meant = meant ≡ None

-- a reason told of a file's document breaks the refusal's rule; no reason is told only where it has a table
abbrev pub IsReason : ScenarioError → Option Members → Reason → Type 0
IsReason e None (no_toml n) = e ≡ error.NotToml
IsReason e (Some file) (found its meant) = Breaks e file its × IsMeantIn its meant
IsReason e (Some file) nothing = Unit {0}
IsReason e _ _ = ⊥

-- ticks of the longest window that a run may have: the lookahead, cut at the horizon
abbrev pub longest_window : Record → ℕ
longest_window s = min s.lookahead s.horizon

-- so many of a run's entries as the ticks are of the horizon, rounded down
abbrev pub entries_in : (ticks entries horizon : ℕ) → ℕ
entries_in ticks entries horizon = (entries * ticks) / horizon

-- what is said of an accepted file
pub record Describes (s : Record) (a : Accepted) : Type 0 where
  pub processes : a.processes ≡ s.processes
  pub horizon : a.horizon ≡ s.horizon
  pub limit : a.limit ≡ s.limit
  pub window : a.window ≡ longest_window s
  pub in_window : a.estimate.in_window ≡ entries_in (longest_window s) a.estimate.entries s.horizon

-- the file is accepted, and described
pub record AcceptsAs (bytes : List ℕ) (a : Accepted) : Type 0 where
  pub stands_for : Record
  pub accepts : Accepts bytes stands_for
  pub describes : Describes stands_for a

-- the line and the column are those of a place of the text, before which so many bytes stand
pub record IsPlaced (bytes : List ℕ) (place : ℕ) (n : NotToml) : Type 0 where
  pub within : place ≤ length bytes
  pub line : n.line ≡ line_after (take place bytes)
  pub column : n.column ≡ column_after (take place bytes)

abbrev pub HasPlace : List ℕ → Reason → Type 0
HasPlace bytes (no_toml n) = (place : ℕ) × IsPlaced bytes place n
HasPlace bytes _ = Unit {0}

-- the refusal is that of the file's bytes, and the line tells it with what breaks its rule
pub record RefusesFor (bytes : List ℕ) (r : Refused) : Type 0 where
  pub refuses : Refuses bytes r.refusal
  pub document : Option Members
  pub is_document : IsDocumentOf bytes document
  pub its : Reason
  pub is_reason : IsReason r.refusal document its
  pub placed : HasPlace bytes its
  pub told : string_bytes r.line ≡ told_text r.refusal its

-- the diagnosis is true of the file
abbrev pub IsDiagnosisOf : List ℕ → Diagnosis → Type 0
IsDiagnosisOf bytes (diagnosis.Accepted a) = AcceptsAs bytes a
IsDiagnosisOf bytes (diagnosis.Refused r) = RefusesFor bytes r

-- no refusal applies, and the record is described for which the table stands
pub record AcceptsTableAs (file : Members) (a : Accepted) : Type 0 where
  pub unrefused : refusal_of file ≡ None
  pub describes : Describes (record_of file) a

-- the refusal is that of the table, and the line tells it with what breaks its rule
pub record RefusesTableFor (file : Members) (r : Refused) : Type 0 where
  pub other : is_memory r.refusal ≡ false
  pub applies : refusal_of file ≡ Some r.refusal
  pub its : Reason
  pub is_reason : IsReason r.refusal (Some file) its
  pub told : string_bytes r.line ≡ told_text r.refusal its

abbrev pub IsTableDiagnosisOf : Members → Diagnosis → Type 0
IsTableDiagnosisOf file (diagnosis.Accepted a) = AcceptsTableAs file a
IsTableDiagnosisOf file (diagnosis.Refused r) = RefusesTableFor file r
