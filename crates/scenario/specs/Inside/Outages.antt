-- The outages of the links, as they are taken from tables one after the other.
use Rattle.std.specs.{Prelude.{◌≡◌, ℕ, List, [], ◌∷◌, ◌++◌, get_or, slice_set, Result, OnOk}, Global.{Vec}}
use Rattle.{toml.specs.Data.{Members}, scenario_record.specs.declared.outage.Outage.{Outage}}
use Rattle.scenario.specs.{Text.{pair_of, outage_of, each_pairs_outages}, Rules.{are_bad_outages}, Refusals.{Judges, when}, Parts.{outages_in}, declared.{error.ScenarioError.{ScenarioError}, outages.PairOutage.{PairOutage}}}
use Rattle.scenario.specs.declared.error.ScenarioError.TheVariants as error

-- the lists with one more outage in that at a place
abbrev pub with_outage : List (List Outage) → ℕ → Outage → List (List Outage)
with_outage lists place outage = slice_set lists place (get_or lists place [] ++ outage ∷ [])

-- the table says this of its pair
abbrev pub Says : Members → PairOutage → Type 0
Says table o = ((o.from, o.to) ≡ pair_of table) × (o.outage ≡ outage_of table)

-- the lists are those of the links among n processes with these tables
abbrev pub AreOutagesOf : ℕ → List Members → List (Vec Outage) → Type 0
AreOutagesOf n tables lists = outages_in lists ≡ each_pairs_outages tables n

-- an answer after which lists that were those of some tables are those with more tables behind them
abbrev pub Adds : {T E : Type 0} → ℕ → (more : List Members) → (old new : List (Vec Outage)) → Result T E → Type 0
Adds n more old new result =
    (tables : List Members) → AreOutagesOf n tables old → OnOk result (AreOutagesOf n (tables ++ more) new)

-- the answer is the one about these tables of outages among n processes
abbrev pub JudgesOutages : {T : Type 0} → ℕ → List Members → Result T ScenarioError → Type 0
JudgesOutages n tables result = Judges (when (are_bad_outages n tables) error.OutageLine) result
