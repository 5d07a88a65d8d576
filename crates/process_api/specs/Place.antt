-- Where a process stands.
use Rattle.std.specs.Prelude.{ℕ, Bool, ◌&&◌, nat_eq, zero, suc, not, nat_le, List, [], ◌∷◌, ◌++◌, filter, if◌then◌else◌, ◌+◌, ◌%◌, true}
use Rattle.process_api.specs.declared.{numbers.Watch.{Watch, TheVariants.{All, Next}}, pid.TheConstants.{MOST_PROCESSES}}

-- its own number, how many processes there are, and the tick at which the run ends
pub record Place : Type 0 where
  pub own : ℕ
  pub processes : ℕ
  pub horizon : ℕ

abbrev pub same_place : Place → Place → Bool
same_place a b = nat_eq a.own b.own && (nat_eq a.processes b.processes && nat_eq a.horizon b.horizon)

-- 1 to n, in order
abbrev pub numbers_to : ℕ → List ℕ
numbers_to zero = []
numbers_to (suc n) = numbers_to n ++ suc n ∷ []

-- 1 to n but p, in order
abbrev pub others : ℕ → ℕ → List ℕ
others n p = filter (λ q. not (nat_eq q p)) (numbers_to n)

-- q is one of 1 to n
abbrev pub is_process : ℕ → ℕ → Bool
is_process n q = nat_le 1 q && nat_le q n

-- f, but v at p
abbrev pub change : {X : Type 0} → (ℕ → X) → ℕ → X → ℕ → X
change f p v = λ q. if nat_eq q p then v else f q

-- whom a detector of process `own` of n watches
module _ (own n : ℕ) where
  -- q is another of 1 to n
  abbrev pub is_other : ℕ → Bool
  is_other q = is_process n q && not (nat_eq q own)

  abbrev pub is_chosen : Watch → ℕ → Bool
  is_chosen All q = true
  is_chosen Next q = nat_eq q (own % n + 1)

  -- of processes 1 to n the others, or the next one alone where that is another
  abbrev pub is_watched : Watch → ℕ → Bool
  is_watched watch q = is_other q && is_chosen watch q

-- ---- the most that there is: of processes, of ticks, and of actions in one step

-- processes of a run
abbrev pub most_processes : ℕ
most_processes = MOST_PROCESSES

-- ticks of a delay, a period, a time-out or the lookahead
abbrev pub most_ticks : ℕ
most_ticks = 1_000_000

-- the last tick of a horizon, a crash or an outage
abbrev pub last_tick : ℕ
last_tick = 10_000_000

-- actions of a detector of layer 1
abbrev pub most_first_actions : ℕ
most_first_actions = 512

-- of one of layer 2, with those of the detector below it
abbrev pub most_second_actions : ℕ
most_second_actions = 1024

-- of an algorithm
abbrev pub most_algorithm_actions : ℕ
most_algorithm_actions = 2048

-- of a process
abbrev pub most_step_actions : ℕ
most_step_actions = 4096
