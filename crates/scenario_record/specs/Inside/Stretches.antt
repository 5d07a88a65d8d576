-- Stretches in which a tick is looked up.
use Rattle.std.specs.{Prelude.{◌≡◌, ℕ, List}, List.{list_any, Sorted.{IsNonDecreasingBy}}}
use Rattle.scenario_record.specs.{Record.{covers}, declared.outage.Outage.{Outage}}

-- the stretches, by rising begins and rising ends, have just the ticks of the outages
pub record AreStretchesOf (outages stretches : List Outage) : Type 0 where
  pub begins : IsNonDecreasingBy (λ s. s.begin) stretches
  pub ends : IsNonDecreasingBy (λ s. s.until) stretches
  pub same : (tick : ℕ) → list_any (covers tick) stretches ≡ list_any (covers tick) outages
