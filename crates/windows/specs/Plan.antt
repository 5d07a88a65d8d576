-- Plans: how many workers share a window, and how long windows are.
use Rattle.std.specs.Prelude.{◌≡◌, ℕ, ◌≤◌, ◌<◌}
use Rattle.{scenario_record.specs.Record.{Record}, windows.specs.declared.{error.PlanError.{PlanError}, plan.TheConstants.{MOST_WORKERS}}}
use Rattle.windows.specs.declared.error.PlanError.TheVariants as error

-- how many workers can share a window
abbrev pub most_workers : ℕ
most_workers = MOST_WORKERS

pub record PlanRecord : Type 0 where
  pub workers : ℕ
  -- in ticks
  pub window : ℕ

abbrev pub plan_of : (workers window : ℕ) → PlanRecord
plan_of workers window = record { workers = workers; window = window }

-- what holds of every plan
pub record IsPlan (plan : PlanRecord) : Type 0 where
  pub workers_low : 1 ≤ plan.workers
  pub workers_high : plan.workers ≤ most_workers
  pub window_low : 1 ≤ plan.window

-- a window of the plan is no longer than the scenario's lookahead
abbrev pub IsPlanFor : Record → PlanRecord → Type 0
IsPlanFor s plan = plan.window ≤ s.lookahead

-- the reason is one against these numbers
abbrev pub Applies : (lookahead workers window : ℕ) → PlanError → Type 0
Applies lookahead workers window error.Workers = ¬ ((1 ≤ workers) × (workers ≤ most_workers))
Applies lookahead workers window error.WindowZero = window ≡ 0
Applies lookahead workers window error.WindowTooLong = lookahead < window

abbrev pub number_of : PlanError → ℕ
number_of error.Workers = 1
number_of error.WindowZero = 2
number_of error.WindowTooLong = 3

abbrev pub NoneApplies : (lookahead workers window : ℕ) → Type 0
NoneApplies lookahead workers window = (e : PlanError) → ¬ (Applies lookahead workers window e)

-- the reason is the first that applies
pub record IsFirst (lookahead workers window : ℕ) (e : PlanError) : Type 0 where
  pub applies : Applies lookahead workers window e
  pub first : (other : PlanError) → Applies lookahead workers window other → number_of e ≤ number_of other
