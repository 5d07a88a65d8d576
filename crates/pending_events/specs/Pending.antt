-- How a map of pending events is seen, and what its clauses say.
use Rattle.std.specs.Prelude.{◌≡◌, ℕ}
use Rattle.{process_api.specs.declared.{key.Key.{Key}, message.StepInput.{StepInput}}, trace_laws.specs.{Step.{Events}, World.{Has, IsLeast}}}

-- no event is in the set
abbrev pub IsEmpty : Events → Type 0
IsEmpty set = (key : Key) (input : StepInput) → ¬ (Has set key input)

-- the least event of the set is due at this tick
abbrev pub IsLeastTick : Events → ℕ → Type 0
IsLeastTick set tick = (key : Key) × (input : StepInput) × IsLeast set key input × (key.tick ≡ tick)
