-- What a scenario and its machines are to the event list. Only the last section knows algorithms and letters' fates.
use Rattle.std.specs.{Prelude.{◌≢◌, ℕ, ◌≤◌, Bool, false, nat_le, IsTrue, Option, None, Some}, List.{All}}
use Rattle.{process_api.specs.{Answer.{IsAllowed, Answer}, Mind.{Mind, is_mind_at}, React.{react}, declared.message.StepInput.{StepInput}}, scenario_record.specs.Record.{Record, crash, place_in, opening_mind}}
use Rattle.streams.specs.{Fate.{fate_of}, declared.fate.Fate.{Fate}}
use Rattle.streams.specs.declared.fate.Fate.TheVariants as fate

pub record Setting (Mind : Type 0) : Type 0 where
  pub processes : ℕ
  -- events of this tick or later are never taken
  pub horizon : ℕ
  -- how many ticks a letter to another process takes at least
  pub lookahead : ℕ
  -- the tick at which a process crashes, if it does
  pub crash : ℕ → Option ℕ
  -- of the letter with this number on the link from one process to another, sent at this tick
  pub fate : (from to number sent_at : ℕ) → Fate
  -- the mind with which a process opens
  pub opening : ℕ → Mind
  -- what a mind becomes, and does, at a tick by an input
  pub react : Mind → (now : ℕ) → StepInput → Answer Mind
  -- whether a mind is one of this process
  pub is_mind : ℕ → Mind → Bool

module _ {Mind : Type 0} (S : Setting Mind) where
  abbrev pub IsProcess : ℕ → Type 0
  IsProcess p = (1 ≤ p) × (p ≤ S.processes)

  -- a letter takes at least the lookahead, where it isn't lost
  abbrev pub IsSlow : Fate → Type 0
  IsSlow fate.Lost = Unit {0}
  IsSlow (fate.Delay ticks) = S.lookahead ≤ ticks

  -- what the laws need: a mind of a process stays one, sends to processes alone and pauses for a tick at least
  pub record IsSound : Type 0 where
    pub lasts : 1 ≤ S.horizon
    pub ahead : 1 ≤ S.lookahead
    pub opens : (p : ℕ) → IsProcess p → IsTrue (S.is_mind p (S.opening p))
    pub keeps : (p : ℕ) (mind : Mind) (now : ℕ) (input : StepInput)
        → IsProcess p → IsTrue (S.is_mind p mind) → IsTrue (S.is_mind p (S.react mind now input).state)
    pub allowed : (p : ℕ) (mind : Mind) (now : ℕ) (input : StepInput)
        → IsProcess p → IsTrue (S.is_mind p mind) → All (IsAllowed S.processes) (S.react mind now input).actions
    pub slow : (from to number sent_at : ℕ)
        → IsProcess from → IsProcess to → from ≢ to → 1 ≤ number → IsSlow (S.fate from to number sent_at)

-- whether the crash tick, if there is one, has come
abbrev pub has_crashed : Option ℕ → ℕ → Bool
has_crashed None now = false
has_crashed (Some at) now = nat_le at now

-- ---- what a scenario is to the event list

abbrev pub setting_of : Record → Setting Mind
setting_of s = record {
  processes = s.processes;
  horizon = s.horizon;
  lookahead = s.lookahead;
  crash = crash s;
  fate = fate_of s;
  opening = opening_mind s;
  react = react;
  is_mind = λ p mind. is_mind_at (place_in s p) mind;
}
