-- What the code has read so far, seen as parts of the definitions.
use Rattle.std.specs.{Prelude.{◌≤◌, ℕ, ◌+◌, ◌-◌, ◌*◌, List, Bool, map, get_or, codes}, Global.{Vec}}
use Rattle.{toml.specs.Data.{Members}, scenario_record.specs.{Record.{no_link}, declared.{link.Link.{Link}, outage.Outage.{Outage}}}}
use Rattle.scenario.specs.Table as table
use Rattle.scenario.specs.{Table.{has_unlisted, has_lacking, has_mistyped, tables_at}, Text.{processes_of, links_among}, declared.{field.Field.{Field}, keys.KeyFault.{KeyFault, TheVariants.{Unlisted, Lacking, Mistyped}}}}

-- a key of the code's lists
abbrev pub field_of : Field → table.Field
field_of f = record { key = f.key.now; kind = f.kind; needed = f.needed }

abbrev pub fields_of : List Field → List table.Field
fields_of fs = map field_of fs

abbrev pub fault_of : KeyFault → List table.Field → Members → Bool
fault_of Unlisted = has_unlisted
fault_of Lacking = has_lacking
fault_of Mistyped = has_mistyped

-- the links of a file with this common link
abbrev pub links_of : Link → Members → List Link
links_of common t = links_among common (tables_at (codes "links") t) (processes_of t)

-- the outages of each link, in lists of the code
abbrev pub outages_in : List (Vec Outage) → List (List Outage)
outages_in lists = map (λ v. v.items) lists

-- the number is one of 1 to n
pub record IsProcess (n p : ℕ) : Type 0 where
  pub low : 1 ≤ p
  pub high : p ≤ n

-- the link of a pair among n processes, in a list by sender and then by receiver
abbrev pub link_in : ℕ → List Link → ℕ × ℕ → Link
link_in n links pair = get_or links ((pair.0 - 1) * n + (pair.1 - 1)) no_link
