-- What is said of a refused file, in words. A quote from it is printed on one line, without control characters.
use Rattle.std.specs.{Prelude.{ℕ, ℤ, List, [], ◌++◌, Bool, true, false, ◌&&◌, ◌||◌, Option, Some, None, if◌then◌else◌, codes, decimal, string_bytes}, Borrow.{Bor}, List.{flat_map}, Fmt.{signed_decimal}}
use Rattle.{printable.specs.Printable.{printable}, scenario.specs.{Refusals.{name_of}, Rules.{is_within, most_in}, Table.{is_listed, same_text}, Parts.{fields_of}, Keys.{place_text}}}
use Rattle.scenario.specs.declared.{error.ScenarioError.{ScenarioError}, field.Kind.{Kind}, place.Place.{Place}, fault.{UnknownKey.{UnknownKey}, WrongKind.{WrongKind}, Outside.{Outside}, ProposalsFault.{ProposalsFault}, Fault.{Fault}}}
use Rattle.scenario.specs.declared.finding.Finding.{Finding}
use Rattle.scenario.specs.declared.field.Kind.TheVariants as kind
use Rattle.scenario.specs.declared.place.Place.TheVariants as place
use Rattle.scenario.specs.declared.place.Section.TheVariants as section
use Rattle.scenario.specs.declared.fault.ProposalsFault.TheVariants as proposals
use Rattle.scenario.specs.declared.fault.Fault.TheVariants as fault
use Rattle.scenario.specs.declared.finding.Finding.TheVariants as finding
use Rattle.diagnosis.specs.declared.{told.NotToml.{NotToml}, answer.Refused.{Refused}}

-- a text and then another. It groups to the right
infixr 65 ◌<>◌
abbrev pub ◌<>◌ : List ℕ → List ℕ → List ℕ
a <> b = a ++ b

-- the path of a key of the table at a place: `horizon`, `detector.timeout` or `crash[1].at`
abbrev pub path_text : Place → List ℕ → List ℕ
path_text place.Top key = key
path_text at key = place_text at <> codes "." <> key

abbrev pub suggestion_text : Place → Option (Bor (List ℕ)) → List ℕ
suggestion_text at None = []
suggestion_text at (Some key) = codes " (did you mean " <> path_text at key.now <> codes "?)"

-- what a file of version 1 lacks for it
abbrev pub second_text : List ℕ
second_text = codes " (version 2 allows it)"

abbrev pub is_detector : Place → Bool
is_detector (place.Section section.Detector) = true
is_detector _ = false

-- keys of a detector that names freshness points, and of one that doesn't
abbrev pub is_of_freshness : List ℕ → Bool
is_of_freshness key = same_text key (codes "eta") || same_text key (codes "delta")

abbrev pub is_of_timeout : List ℕ → Bool
is_of_timeout key = same_text key (codes "period") || (same_text key (codes "check") || (same_text key (codes "timeout")
    || same_text key (codes "grow")))

-- which kind of detector has the key, where the other one hasn't; else the key that is perhaps meant
abbrev pub kind_hint : Place → (key : List ℕ) → (meant : Option (Bor (List ℕ))) → List ℕ
kind_hint at key meant =
    if is_detector at && is_of_freshness key then codes " (kind = \"freshness\" of version 2 has it)"
    else if is_detector at && is_of_timeout key then codes " (kind = \"timeout\" has it)"
    else suggestion_text at meant

abbrev pub unknown_hint : Place → UnknownKey → (meant : Option (Bor (List ℕ))) → List ℕ
unknown_hint at u meant =
    if is_listed (fields_of u.in_second.now) u.key.now then second_text else kind_hint at u.key.now meant

abbrev pub unknown_text : Place → UnknownKey → (meant : Option (Bor (List ℕ))) → List ℕ
unknown_text at u meant = path_text at (printable u.key.now) <> unknown_hint at u meant

abbrev pub kind_words : Kind → List ℕ
kind_words kind.Number = codes "an integer"
kind_words kind.Text = codes "a string"
kind_words kind.Numbers = codes "an array of integers"
kind_words kind.Table = codes "a table"
kind_words kind.Tables = codes "an array of tables"

abbrev pub found_text : List ℕ → List ℕ
found_text word = if same_text word (codes "array") then codes "another array" else codes "of TOML's kind " <> word

-- a loss is easily taken for a share
abbrev pub unit_text : List ℕ → List ℕ
unit_text key = if same_text key (codes "loss") then codes " (loss is in thousandths)" else []

abbrev pub wrong_kind_text : Place → WrongKind → List ℕ
wrong_kind_text at w =
    path_text at w.key.now <> codes ": not " <> kind_words w.wanted <> codes ", but " <> found_text w.found.now
    <> unit_text w.key.now

-- so many processes may be in a file of version 2
abbrev pub is_of_second : Outside → Bool
is_of_second o = same_text o.key.now (codes "processes") && is_within 1 (most_in true) o.value

abbrev pub outside_hint : Outside → List ℕ
outside_hint o = if is_of_second o then second_text else []

abbrev pub outside_text : Place → Outside → List ℕ
outside_text at o = path_text at o.key.now <> codes ": " <> signed_decimal o.value <> codes " is not " <> decimal o.low
    <> codes " to " <> decimal o.high <> outside_hint o

abbrev pub names_text : List (Bor (List ℕ)) → List ℕ
names_text = flat_map (λ name. codes " " <> name.now)

abbrev pub none_of_text : List ℕ → List (Bor (List ℕ)) → List ℕ
none_of_text value names = codes ": \"" <> value <> codes "\" is none of" <> names_text names

abbrev pub proposals_text : ProposalsFault → List ℕ
proposals_text proposals.Unasked = codes "proposals: there are some, and no algorithm"
proposals_text (proposals.Missing processes) =
    codes "proposals: there are none, and " <> decimal processes <> codes " processes"
proposals_text (proposals.Count number processes) =
    codes "proposals: there are " <> decimal number <> codes ", and " <> decimal processes <> codes " processes"
proposals_text (proposals.Outside number value) =
    codes "proposals[" <> decimal number <> codes "]: " <> signed_decimal value <> codes " is not 0 to 4294967295"

abbrev pub not_before_text : Place → ℤ → ℤ → List ℕ
not_before_text at begin until =
    place_text at <> codes ": begin " <> signed_decimal begin <> codes " is not below until "
    <> signed_decimal until

-- what is wrong with the table at a place
abbrev pub fault_text : Place → Fault → (meant : Option (Bor (List ℕ))) → List ℕ
fault_text at (fault.UnknownKey u) meant = unknown_text at u meant
fault_text at (fault.MissingKey key) meant = path_text at key.now
fault_text at (fault.WrongKind w) meant = wrong_kind_text at w
fault_text at (fault.Outside o) meant = outside_text at o
fault_text at (fault.OtherName o) meant = path_text at o.key.now <> none_of_text (printable o.value.now) o.allowed.now
fault_text at (fault.MinAboveMax a) meant =
    place_text at <> codes ": min " <> signed_decimal a.min <> codes " is above max " <> signed_decimal a.max
fault_text at (fault.ToItself process) meant =
    place_text at <> codes ": from and to are both " <> signed_decimal process
fault_text at (fault.NotBefore n) meant = not_before_text at n.begin n.until

-- what is wrong with a file
abbrev pub finding_text : Finding → (meant : Option (Bor (List ℕ))) → List ℕ
finding_text (finding.At at its) meant = fault_text at its meant
finding_text (finding.Proposals p) meant = proposals_text p
finding_text (finding.Below b) meant =
    codes "link " <> decimal b.from <> codes " to " <> decimal b.to <> codes ": min " <> decimal b.min
    <> codes " is below the lookahead " <> decimal b.lookahead
finding_text (finding.TwicePair from to number earlier) meant =
    codes "links[" <> decimal number <> codes "]: link " <> signed_decimal from <> codes " to " <> signed_decimal to
    <> codes " has a table already, links[" <> decimal earlier <> codes "]"
finding_text (finding.TwiceProcess process number earlier) meant =
    codes "crash[" <> decimal number <> codes "]: process " <> signed_decimal process
    <> codes " has a table already, crash[" <> decimal earlier <> codes "]"

abbrev pub not_toml_text : NotToml → List ℕ
not_toml_text n =
    codes "line " <> decimal n.line <> codes ", column " <> decimal n.column <> codes ": " <> printable n.message.now

-- why a file is refused: its bytes are no TOML, or something of it breaks the rule, with the key that is perhaps meant.
-- No file that is TOML is known in which nothing is found
pub data Reason : Type 0 where
  no_toml : NotToml → Reason
  found : Finding → (meant : Option (Bor (List ℕ))) → Reason
  nothing : Reason

-- as `LinkNumbers: links[2500]: min 21 is above max 20`
abbrev pub told_text : ScenarioError → Reason → List ℕ
told_text refusal (no_toml n) = name_of refusal <> codes ": " <> not_toml_text n
told_text refusal (found its meant) = name_of refusal <> codes ": " <> finding_text its meant
told_text refusal nothing = name_of refusal

-- the line with it
abbrev pub refused_text : Refused → List ℕ
refused_text r = string_bytes r.line
