-- The ranges of a scenario's fields. The ranges of a detector's numbers, and which algorithm is none.
use Rattle.std.specs.{Prelude.{◌≡◌, ◌≢◌, ℕ, ◌≤◌, ◌<◌, ◌*◌, ◌^◌, not, None, is_some, length, Bool, true, false}, List.{AllByRecursion}, Option.{ForSome}}
use Rattle.{std.proofs.Props.{props}, process_api.specs.{Place.{last_tick, most_processes, most_ticks}, declared.numbers.{DetectorNumbers.{DetectorNumbers, TheVariants.{Timeout, Freshness}}, FreshnessNumbers.{FreshnessNumbers}, TimeoutNumbers.{TimeoutNumbers}}}}
use Rattle.scenario_record.specs.{Record.{Record, proposal, crash, link, outages_on}, declared.{link.Link.{Link}, outage.Outage.{Outage}, algorithm.AlgorithmKind.{AlgorithmKind, TheVariants.{Idle, Strong, EventuallyStrong}}}}

-- each number of ticks is from 1 to the most that there may be
pub record AreTimeoutInRange (numbers : TimeoutNumbers) : Type 0 where
  pub period_low : 1 ≤ numbers.period
  pub period_high : numbers.period ≤ most_ticks
  pub check_low : 1 ≤ numbers.check
  pub check_high : numbers.check ≤ most_ticks
  pub timeout_low : 1 ≤ numbers.timeout
  pub timeout_high : numbers.timeout ≤ most_ticks
  pub grow_low : 1 ≤ numbers.grow
  pub grow_high : numbers.grow ≤ most_ticks

pub record AreFreshnessInRange (numbers : FreshnessNumbers) : Type 0 where
  pub eta_low : 1 ≤ numbers.eta
  pub eta_high : numbers.eta ≤ most_ticks
  pub delta_low : 1 ≤ numbers.delta
  pub delta_high : numbers.delta ≤ most_ticks

abbrev pub AreInRange : DetectorNumbers → Type 0
AreInRange (Timeout its) = AreTimeoutInRange its
AreInRange (Freshness its) = AreFreshnessInRange its

-- this is a fact, with one proof at most
pub AreInRange-prop : (its : DetectorNumbers) → IsProp (AreInRange its)
AreInRange-prop (Timeout its) = Prim.hlevel props
AreInRange-prop (Freshness its) = Prim.hlevel props

-- there is no algorithm
abbrev pub is_idle : AlgorithmKind → Bool
is_idle Idle = true
is_idle Strong = false
is_idle EventuallyStrong = false

pub record IsLink (link : Link) : Type 0 where
  pub min_low : 1 ≤ link.min
  pub min_high : link.min ≤ link.max
  pub max_high : link.max ≤ most_ticks
  pub loss_high : link.loss ≤ 1000

pub record IsOutage (outage : Outage) : Type 0 where
  pub begin_low : outage.begin < outage.until
  pub until_high : outage.until ≤ last_tick

-- what holds of every accepted scenario
pub record IsInRange (s : Record) : Type 0 where
  pub processes_low : 1 ≤ s.processes
  pub processes_high : s.processes ≤ most_processes
  pub horizon_low : 1 ≤ s.horizon
  pub horizon_high : s.horizon ≤ last_tick
  pub lookahead_low : 1 ≤ s.lookahead
  pub lookahead_high : s.lookahead ≤ most_ticks
  pub limit_low : 1 ≤ s.limit
  pub limit_high : s.limit ≤ 100000000
  pub seed_high : s.seed < 2 ^ 63
  pub numbers : AreInRange s.detector
  pub share : ForSome s.share (λ period. (1 ≤ period) × (period ≤ most_ticks))
  pub proposals : (p : ℕ) → ForSome (proposal s p) (λ value. value < 2 ^ 32)
  -- there is a proposal of each process, unless there is no algorithm
  pub proposed : (p : ℕ) → 1 ≤ p → p ≤ s.processes → is_some (proposal s p) ≡ not (is_idle s.algorithm)
  pub crashes : (p : ℕ) → ForSome (crash s p) (λ at. at ≤ last_tick)
  -- above the number of processes nothing is proposed, and nobody crashes
  pub proposed_above : (p : ℕ) → s.processes < p → proposal s p ≡ None
  pub crashed_above : (p : ℕ) → s.processes < p → crash s p ≡ None
  -- each process is linked to each
  pub linked : length s.links ≡ s.processes * s.processes
  pub links : (from to : ℕ) → 1 ≤ from → from ≤ s.processes → 1 ≤ to → to ≤ s.processes → IsLink (link s from to)
  -- a letter to another process takes at least the lookahead
  pub ahead : (from to : ℕ) → 1 ≤ from → from ≤ s.processes → 1 ≤ to → to ≤ s.processes
      → from ≢ to → s.lookahead ≤ (link s from to).min
  pub outages : (from to : ℕ) → 1 ≤ from → from ≤ s.processes → 1 ≤ to → to ≤ s.processes
      → AllByRecursion IsOutage (outages_on s from to)
