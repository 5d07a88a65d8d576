-- Words of private functions.
use Rattle.{std.specs.Prelude.{ℕ, Bool, codes, Option, IfSome, List, [], false, not}, toml.specs.Data.{Members}}
use Rattle.scenario.specs.{Table.{integers_at, has_key}, Rules.{are_other_than}, declared.{error.ScenarioError.{ScenarioError}, place.{Section.{Section}, TableArray.{TableArray}}, fault.Fault.{Fault}, drawn.LinkOutage.{LinkOutage}}}
use Rattle.scenario.specs.{Ranges.{Subject, subject_of}, Faults.{IsValueFault}, Text.{is_second}}
use Rattle.scenario.specs.declared.error.ScenarioError.TheVariants as error
use Rattle.scenario.specs.declared.place.Section.TheVariants as section
use Rattle.scenario.specs.declared.place.TableArray.TheVariants as array
use Rattle.scenario.specs.declared.place.Place.TheVariants as place

-- outages are drawn for a file that isn't of version 2, which alone has the key for them
abbrev pub lacks_outages : List LinkOutage → Members → Bool
lacks_outages [] t = false
lacks_outages drawn t = not (is_second t)

-- the fault that was found in the table, if one was, is so
unfoldable pub IsFoundBy : Subject → (table : Members) → Option Fault → Type 0
IsFoundBy s table found = IfSome found (IsValueFault s table)

-- the refusal that is about the table of a section
abbrev pub section_error : Section → ScenarioError
section_error section.Detector = error.DetectorNumbers
section_error section.Share = error.Share
section_error section.Link = error.LinkNumbers

-- the refusal that is about the tables of an array
abbrev pub array_error : TableArray → ScenarioError
array_error array.Links = error.LinkNumbers
array_error array.Crash = error.CrashLine
array_error array.Outage = error.OutageLine

-- that of a table of an array
abbrev pub element_subject : TableArray → ℕ → (file : Members) → Subject
element_subject a number file = subject_of (array_error a) (place.Element a number) file

-- the proposals of a table aren't one of each of n processes
abbrev pub has_other_proposals : ℕ → Members → Bool
has_other_proposals n t = are_other_than n (has_key (codes "proposals") t) (integers_at (codes "proposals") t)
