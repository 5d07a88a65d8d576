-- The status of each fault is one of its end.
use Rattle.{std.proofs.Common.{inl, inr, refl}, shell.specs.Ending.{HasStatus}, study_commands.specs.{Fault.{end_of, status_of}, declared.fault.Fault.{Fault, TheVariants.{Form, Limit, Memory, NotDrawn, Refused, Words, WordsMemory, Write}}}}

pub has_status : (fault : Fault) → HasStatus (end_of fault) (status_of fault)
has_status Form = inr (inl refl)
has_status WordsMemory = inr (inl refl)
has_status (Words line) = inr (inl refl)
has_status (Refused line) = inl refl
has_status (NotDrawn error line) = inl refl
has_status Limit = inr (inr refl)
has_status Memory = refl
has_status Write = refl
