-- Machines with their link counts, as processes.
use Rattle.std.specs.Prelude.{◌≡◌, ℕ, ◌+◌, ◌≤◌, List, length, slice_index_or, IsTrue}
use Rattle.{process_api.specs.{Place.{most_step_actions}, Mind.{Mind, is_mind_at}}, scenario_record.specs.Record.{Record, crash, place_in}, trace_laws.specs.Step.{Process}, steps.specs.declared.seat.Seat.{Seat}}

-- counts that are kept by receiver, as a function
abbrev pub count_of : List ℕ → ℕ → ℕ
count_of counts q = slice_index_or counts q 0

-- the process that a machine and its counts are
abbrev pub process_of : {M : Type 0} → (M → Mind) → Seat M → Process Mind
process_of mind seat = record { mind = mind seat.machine; counts = count_of seat.links.value.counts.items }

-- the number of the process
abbrev pub own_of : {M : Type 0} → (M → Mind) → Seat M → ℕ
own_of mind seat = (mind seat.machine).lower.place.own

-- a mind of a process of this scenario
abbrev pub IsMindIn : Record → Mind → Type 0
IsMindIn s m = (1 ≤ m.lower.place.own) × (m.lower.place.own ≤ s.processes)
    × IsTrue (is_mind_at (place_in s m.lower.place.own) m)

-- a machine of this scenario, which put at most so much on each link
pub record IsSeated {M : Type 0} (mind : M → Mind) (s : Record) (most : ℕ) (seat : Seat M) : Type 0 where
  pub low : 1 ≤ own_of mind seat
  pub high : own_of mind seat ≤ s.processes
  pub is_mind : IsTrue (is_mind_at (place_in s (own_of mind seat)) (mind seat.machine))
  pub horizon : seat.links.value.horizon ≡ s.horizon
  pub crash : seat.crash ≡ crash s (own_of mind seat)
  pub places : length seat.links.value.counts.items ≡ s.processes + 1
  pub counts : (q : ℕ) → count_of seat.links.value.counts.items q ≤ most

-- whatever it put on each link, it put at most a step's actions more since
abbrev pub StaysSeated : {M : Type 0} (mind : M → Mind) → Record → (old new : Seat M) → Type 0
StaysSeated mind s old new = (most : ℕ) → IsSeated mind s most old → IsSeated mind s (most + most_step_actions) new
