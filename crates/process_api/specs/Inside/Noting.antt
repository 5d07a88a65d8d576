-- The notes of a process.
use Rattle.std.specs.Prelude.{ℕ, Bool, if◌then◌else◌}
use Rattle.process_api.specs.declared.action.Note.{Note}
use Rattle.process_api.specs.declared.action.Note.TheVariants as note

-- the note of a layer that the suspicion of a process begins, or that it ends
abbrev pub note_of : (begins : Bool) → ℕ → ℕ → Note
note_of begins layer = if begins then note.Suspect layer else note.Trust layer
