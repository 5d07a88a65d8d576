-- The status of each fault is one of its end.
use Rattle.std.proofs.Common.{inl, inr, refl}
use Rattle.process_api.specs.declared.run_error.RunError.TheVariants as run
use Rattle.{bench_commands.specs.{Fault.{end_of, status_of}, declared.fault.Fault.{Fault, TheVariants.{Different, Form, Plan, Run, Scenario, TooLong, Unreadable, Words, WordsMemory}}}, shell.specs.Ending.{HasStatus}}

pub has_status : (fault : Fault) → HasStatus (end_of fault) (status_of fault)
has_status Form = inr (inl refl)
has_status WordsMemory = inr (inl refl)
has_status (Words text) = inr (inl refl)
has_status Unreadable = inl refl
has_status TooLong = inl refl
has_status (Scenario refusal) = inl refl
has_status (Plan refusal) = inr (inr refl)
has_status (Run run.Limit) = refl
has_status (Run run.Memory) = refl
has_status (Run run.Spawn) = refl
has_status (Run run.Write) = refl
has_status Different = inr (inr refl)
