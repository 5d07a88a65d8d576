-- Which refusal the bytes of a scenario's file get, or which record they stand for.
use Rattle.std.specs.{Prelude.{◌≡◌, ℕ, List, [], ◌∷◌, ◌++◌, Bool, true, false, Option, Some, None, option_map, Result, Ok, Err, is_none, IsUtf8, codes}, Option.{option_map_or}}
use Rattle.{toml.specs.{Data.{Members}, Parse.{parse_document}}, process_api.specs.Place.{last_tick, most_ticks}, scenario_record.specs.Record.{Record}, scenario.specs.{Table.{has_unlisted, has_lacking, has_mistyped}, Keys.{some_table}, Text.{is_second, algorithm_in, record_of}}}
use Rattle.scenario.specs.{Rules.{is_outside, is_negative, most_in, proposals_refused, detector_refused, share_refused, links_refused, pair_below, crashes_refused, outages_refused}, declared.error.ScenarioError.{ScenarioError}}
use Rattle.scenario.specs.declared.error.ScenarioError.TheVariants as error

-- the refusal, where its test says so
abbrev pub when : Bool → ScenarioError → Option ScenarioError
when true e = Some e
when false e = None

-- a link is below the lookahead: that of this pair, the least one
abbrev pub when_below : Option (ℕ × ℕ) → Option ScenarioError
when_below pair = option_map (λ p. error.BelowLookahead p.0 p.1) pair

-- the first that applies
abbrev pub first_of : List (Option ScenarioError) → Option ScenarioError
first_of [] = None
first_of (Some e ∷ os) = Some e
first_of (None ∷ os) = first_of os

-- the refusals of a file's table, in the order in which they are tried
module _ (t : Members) where
  abbrev pub key_refusals : List (Option ScenarioError)
  key_refusals = when (some_table has_unlisted t) error.UnknownKey
      ∷ when (some_table has_lacking t) error.MissingKey
      ∷ when (some_table has_mistyped t) error.WrongKind ∷ []

  abbrev pub number_refusals : List (Option ScenarioError)
  number_refusals = when (is_outside 1 2 (codes "version") 0 t) error.Version
      ∷ when (is_outside 1 (most_in (is_second t)) (codes "processes") 0 t) error.Processes
      ∷ when (is_outside 1 last_tick (codes "horizon") 0 t) error.Horizon
      ∷ when (is_outside 1 most_ticks (codes "lookahead") 0 t) error.Lookahead
      ∷ when (is_outside 1 100000000 (codes "limit") 1000000 t) error.Limit
      ∷ when (is_negative (codes "seed") 0 t) error.Seed ∷ []

  abbrev pub part_refusals : List (Option ScenarioError)
  part_refusals = when (is_none (algorithm_in t)) error.AlgorithmName
      ∷ when (proposals_refused t) error.Proposals
      ∷ when (detector_refused t) error.DetectorNumbers
      ∷ when (share_refused t) error.Share
      ∷ when (links_refused t) error.LinkNumbers
      ∷ when_below (pair_below (record_of t))
      ∷ when (crashes_refused t) error.CrashLine ∷ []

  abbrev pub outage_refusals : List (Option ScenarioError)
  outage_refusals = when (outages_refused t) error.OutageLine ∷ []

  -- the refusal of the table, if one applies
  unfoldable pub refusal_of : Option ScenarioError
  refusal_of = first_of (key_refusals ++ (number_refusals ++ (part_refusals ++ outage_refusals)))

abbrev pub is_memory : ScenarioError → Bool
is_memory error.Memory = true
is_memory _ = false

-- what is answered is the refusal that applies, or that memory was refused
abbrev pub IsAnswer : (applies : Option ScenarioError) → ScenarioError → Type 0
IsAnswer applies e = is_memory e ≡ false → applies ≡ Some e

-- something is read where no refusal applies; else that one is answered, or that memory was refused
abbrev pub Judges : {T : Type 0} → (applies : Option ScenarioError) → Result T ScenarioError → Type 0
Judges applies (Ok x) = applies ≡ None
Judges applies (Err e) = IsAnswer applies e

-- the document that the bytes are: a table, or none where they are no UTF-8 or no TOML
abbrev pub IsDocumentOf : List ℕ → Option Members → Type 0
IsDocumentOf bytes None = IsUtf8 bytes → parse_document bytes ≡ None
IsDocumentOf bytes (Some t) = IsUtf8 bytes × (parse_document bytes ≡ Some t)

-- no refusal applies to the document of the bytes, and the record is the one that it stands for
pub record Accepts (bytes : List ℕ) (s : Record) : Type 0 where
  pub table : Members
  pub is_document : IsDocumentOf bytes (Some table)
  pub unrefused : refusal_of table ≡ None
  pub stands_for : s ≡ record_of table

-- the refusal is that of the document of the bytes
pub record Refuses (bytes : List ℕ) (refusal : ScenarioError) : Type 0 where
  pub document : Option Members
  pub is_document : IsDocumentOf bytes document
  pub applies : option_map_or refusal_of document (Some error.NotToml) ≡ Some refusal

-- the name of a refusal, by which a line of fault calls it
abbrev pub name_of : ScenarioError → List ℕ
name_of error.NotToml = codes "NotToml"
name_of error.UnknownKey = codes "UnknownKey"
name_of error.MissingKey = codes "MissingKey"
name_of error.WrongKind = codes "WrongKind"
name_of error.Version = codes "Version"
name_of error.Processes = codes "Processes"
name_of error.Horizon = codes "Horizon"
name_of error.Lookahead = codes "Lookahead"
name_of error.Limit = codes "Limit"
name_of error.Seed = codes "Seed"
name_of error.AlgorithmName = codes "AlgorithmName"
name_of error.Proposals = codes "Proposals"
name_of error.DetectorNumbers = codes "DetectorNumbers"
name_of error.Share = codes "Share"
name_of error.LinkNumbers = codes "LinkNumbers"
name_of (error.BelowLookahead from to) = codes "BelowLookahead"
name_of error.CrashLine = codes "CrashLine"
name_of error.OutageLine = codes "OutageLine"
name_of error.Memory = codes "Memory"
