-- Machines whose minds have, above lower parts of any kind, the state of a rotating coordinator.
use Rattle.std.specs.Prelude.{◌≡◌, ℕ, Bool, false, List, ◌++◌, IsTrue}
use Rattle.judges.proofs.Words.{AllByRecursion, Coordinator, opening_coordinator, step_coordinator, Action, Suspect, Trust, StepInput}
use Rattle.process_api.specs.declared.{action.Action.TheVariants.{Send, Wake, Note}, message.Payload.TheVariants.{Alive, Heartbeat, Suspects}}
use Rattle.trace_laws.specs.Setting.{Setting, IsProcess}

-- what the lower parts may do: they send no letter of the algorithm, and note suspicion and trust alone
abbrev pub IsOfLower : Action → Type 0
IsOfLower (Send to Alive) = Unit {0}
IsOfLower (Send to (Heartbeat number)) = Unit {0}
IsOfLower (Send to (Suspects shared)) = Unit {0}
IsOfLower (Wake pause tag) = Unit {0}
IsOfLower (Note (Suspect layer who)) = Unit {0}
IsOfLower (Note (Trust layer who)) = Unit {0}
IsOfLower a = ⊥

-- The answer of process p of n: the lower parts act first, and the coordinator takes the input with the suspects as they are by then, p not among them
pub record IsJoined (n p : ℕ) (input : StepInput) (before after : Coordinator) (actions : List Action) : Type 0 where
  pub is_suspected : ℕ → Bool
  pub not_itself : is_suspected p ≡ false
  pub lower : List Action
  pub of_lower : AllByRecursion IsOfLower lower
  pub state : after ≡ (step_coordinator n p is_suspected input before).state
  pub acts : actions ≡ lower ++ (step_coordinator n p is_suspected input before).actions

-- the machines run the coordinator, with these proposals
pub record RunsCoordinator {Mind : Type 0} (S : Setting Mind) (proposal : ℕ → ℕ) : Type 0 where
  pub part : Mind → Coordinator
  -- whether a mind has such a part
  pub has_part : Mind → Bool
  pub opens_with : (p : ℕ) → IsProcess S p → IsTrue (has_part (S.opening p))
  pub keeps : (mind : Mind) (now : ℕ) (input : StepInput) → IsTrue (has_part mind) → IsTrue (has_part (S.react mind now input).state)
  pub opens : (p : ℕ) → IsProcess S p → part (S.opening p) ≡ opening_coordinator (proposal p)
  pub joins : (p : ℕ) (mind : Mind) (now : ℕ) (input : StepInput) → IsProcess S p → IsTrue (S.is_mind p mind) → IsTrue (has_part mind)
      → IsJoined S.processes p input (part mind) (part (S.react mind now input).state) (S.react mind now input).actions
