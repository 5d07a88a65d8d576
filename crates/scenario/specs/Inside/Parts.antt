-- What the code has read so far, seen as parts of the definitions, as private functions say it.
use Rattle.std.specs.{Prelude.{String, ◌≡◌, ◌≢◌, ◌≤◌, ◌<◌, ◌^◌, ℕ, List, Bool, map, Option, option_map, codes}, BTreeMap.{BTreeMap}, Borrow.{Bor}, declared.alloc.Global.{Global}}
use Rattle.{process_api.specs.Place.{most_processes}, toml.specs.{Data.{Members}, View.{table_view}, declared.value.Value.{Value}}, scenario_record.specs.{Record.{Record}, declared.link.Link.{Link}}}
use Rattle.scenario.specs.Table as table
use Rattle.scenario.specs.{Table.{tables_at}, Text.{number_at, processes_of}, Rules.{are_bad_pairs}}
use Rattle.scenario.specs.declared.{error.ScenarioError.{ScenarioError}, keys.{Tables.{Tables}, KeyFault.{KeyFault, TheVariants.{Unlisted, Lacking, Mistyped}}}, numbers.{Top.{Top}, TopNumbers.{TopNumbers}}, parts.Parts.{Parts}}
use Rattle.scenario.specs.Parts.{IsProcess, link_in}
use Rattle.scenario.specs.declared.error.ScenarioError.TheVariants as error

-- the refusal for it
abbrev pub error_of : KeyFault → ScenarioError
error_of Unlisted = error.UnknownKey
error_of Lacking = error.MissingKey
error_of Mistyped = error.WrongKind

-- a table that the code was lent, if it was, and those of a list
abbrev pub table_in : Option (Bor (BTreeMap (String Global) Value)) → Option Members
table_in found = option_map (λ m. table_view m.now) found

abbrev pub tables_in : List (Bor (BTreeMap (String Global) Value)) → List Members
tables_in found = map (λ m. table_view m.now) found

-- the tables are those of a file
pub record AreTables (file : Members) (s : Tables) : Type 0 where
  pub links : tables_in s.links.items ≡ tables_at (codes "links") file
  pub crashes : tables_in s.crashes.items ≡ tables_at (codes "crash") file
  pub outages : tables_in s.outages.items ≡ tables_at (codes "outage") file

-- the numbers are those of the table
pub record AreNumbersOf (t : Members) (n : TopNumbers) : Type 0 where
  pub processes : n.processes ≡ processes_of t
  pub processes_low : 1 ≤ n.processes
  pub processes_high : n.processes ≤ most_processes
  pub horizon : n.horizon ≡ number_at (codes "horizon") 0 t
  pub lookahead : n.lookahead ≡ number_at (codes "lookahead") 0 t
  pub limit : n.limit ≡ number_at (codes "limit") 1000000 t
  pub seed : n.seed ≡ number_at (codes "seed") 0 t
  pub seed_high : n.seed < 2 ^ 63

abbrev pub IsTop : Top → Type 0
IsTop top = AreNumbersOf (table_view top.table.now) top.numbers

-- the parts are those of a record
pub record ArePartsOf (s : Record) (p : Parts) : Type 0 where
  pub algorithm : p.algorithm ≡ s.algorithm
  pub detector : p.detector ≡ s.detector
  pub share : p.share ≡ s.share
  pub proposals : p.proposals.items ≡ s.proposals
  pub crashes : p.crashes.items ≡ s.crashes
  pub links : p.links.items ≡ s.links

-- the tables of `links` are refused, whatever the common link is
abbrev pub pairs_refused : Members → Bool
pairs_refused t = are_bad_pairs (processes_of t) (tables_at (codes "links") t)

-- both of a pair are
pub record AreProcesses (n : ℕ) (pair : ℕ × ℕ) : Type 0 where
  pub from : IsProcess n pair.0
  pub to : IsProcess n pair.1

-- of n processes: the pair's link has its min below the lookahead
pub record IsLow (n : ℕ) (links : List Link) (lookahead : ℕ) (pair : ℕ × ℕ) : Type 0 where
  pub processes : AreProcesses n pair
  pub different : pair.0 ≢ pair.1
  pub below : (link_in n links pair).min < lookahead
