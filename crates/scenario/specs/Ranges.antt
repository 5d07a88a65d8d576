-- What a file's tables may have at their keys, by refusal: the ranges of numbers, and the names that texts may be.
use Rattle.std.specs.Prelude.{ℕ, List, [], ◌∷◌, ◌++◌, Bool, true, false, Option, Some, None, if◌then◌else◌, codes}
use Rattle.{toml.specs.Data.{Members}, process_api.specs.Place.{last_tick, most_ticks}, scenario.specs.{Table.{same_text}, Text.{is_second, processes_of}, Rules.{most_in}, declared.{error.ScenarioError.{ScenarioError}, place.{Section.{Section}, Place.{Place}}}}}
use Rattle.scenario.specs.declared.error.ScenarioError.TheVariants as error
use Rattle.scenario.specs.declared.place.Section.TheVariants as section
use Rattle.scenario.specs.declared.place.TableArray.TheVariants as array
use Rattle.scenario.specs.declared.place.Place.TheVariants as place

-- the numbers that a key may have
pub record Range : Type 0 where
  pub key : List ℕ
  pub low : ℕ
  pub high : ℕ

abbrev pub range : List ℕ → ℕ → ℕ → Range
range key low high = record { key = key; low = low; high = high }

abbrev pub ticks : List ℕ → Range
ticks key = range key 1 most_ticks

-- the ends of a key's range
abbrev pub ends_of : List Range → List ℕ → Option (ℕ × ℕ)
ends_of [] key = None
ends_of (r ∷ rs) key = if same_text r.key key then Some (r.low, r.high) else ends_of rs key

-- the names that a key's text may be
pub record Names : Type 0 where
  pub key : List ℕ
  pub allowed : List (List ℕ)

abbrev pub names : List ℕ → List (List ℕ) → Names
names key allowed = record { key = key; allowed = allowed }

abbrev pub allowed_of : List Names → List ℕ → Option (List (List ℕ))
allowed_of [] key = None
allowed_of (n ∷ ns) key = if same_text n.key key then Some n.allowed else allowed_of ns key

-- which values of a table a refusal is about
pub record Subject : Type 0 where
  pub ranges : List Range
  pub names : List Names
  -- whether it is about `min` above `max`, about `from` and `to` that are one, and about `begin` not below `until`
  pub delays : Bool
  pub pair : Bool
  pub ends : Bool

-- about numbers alone
abbrev pub numbers : List Range → Subject
numbers ranges = record { ranges = ranges; names = []; delays = false; pair = false; ends = false }

abbrev pub delay_ranges : List Range
delay_ranges = ticks (codes "min") ∷ ticks (codes "max") ∷ range (codes "loss") 0 1000 ∷ []

-- a pair of n processes
abbrev pub pair_ranges : ℕ → List Range
pair_ranges n = range (codes "from") 1 n ∷ range (codes "to") 1 n ∷ []

abbrev pub algorithm_subject : Subject
algorithm_subject = record (numbers []) {
  names = names (codes "algorithm") (codes "none" ∷ codes "s" ∷ codes "es" ∷ []) ∷ [];
}

abbrev pub detector_subject : Subject
detector_subject = record (numbers (
    ticks (codes "period") ∷ ticks (codes "check") ∷ ticks (codes "timeout") ∷ ticks (codes "grow")
    ∷ ticks (codes "eta") ∷ ticks (codes "delta") ∷ [])) {
      names = names (codes "kind") (codes "timeout" ∷ codes "freshness" ∷ [])
          ∷ names (codes "watch") (codes "all" ∷ codes "next" ∷ []) ∷ [];
    }

abbrev pub link_subject : Subject
link_subject = record (numbers delay_ranges) { delays = true }

-- of n processes
abbrev pub pair_subject : ℕ → Subject
pair_subject n = record (numbers (delay_ranges ++ pair_ranges n)) { delays = true; pair = true }

abbrev pub crash_subject : ℕ → Subject
crash_subject n = numbers (range (codes "process") 1 n ∷ range (codes "at") 0 last_tick ∷ [])

abbrev pub outage_subject : ℕ → Subject
outage_subject n =
    record (numbers (pair_ranges n ++ range (codes "begin") 0 last_tick ∷ range (codes "until") 0 last_tick ∷ [])) {
      pair = true;
      ends = true;
    }

abbrev pub subject_of : ScenarioError → Place → (file : Members) → Subject
subject_of error.Version place.Top file = numbers (range (codes "version") 1 2 ∷ [])
subject_of error.Processes place.Top file = numbers (range (codes "processes") 1 (most_in (is_second file)) ∷ [])
subject_of error.Horizon place.Top file = numbers (range (codes "horizon") 1 last_tick ∷ [])
subject_of error.Lookahead place.Top file = numbers (ticks (codes "lookahead") ∷ [])
subject_of error.Limit place.Top file = numbers (range (codes "limit") 1 100000000 ∷ [])
subject_of error.Seed place.Top file = numbers (range (codes "seed") 0 9223372036854775807 ∷ [])
subject_of error.AlgorithmName place.Top file = algorithm_subject
subject_of error.DetectorNumbers (place.Section section.Detector) file = detector_subject
subject_of error.Share (place.Section section.Share) file = numbers (ticks (codes "period") ∷ [])
subject_of error.LinkNumbers (place.Section section.Link) file = link_subject
subject_of error.LinkNumbers (place.Element array.Links number) file = pair_subject (processes_of file)
subject_of error.CrashLine (place.Element array.Crash number) file = crash_subject (processes_of file)
subject_of error.OutageLine (place.Element array.Outage number) file = outage_subject (processes_of file)
subject_of _ _ file = numbers []
