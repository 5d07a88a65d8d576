-- The texts of a row's fields, as who writes rows keeps them from row to row.
use Rattle.std.specs.{Prelude.{◌≡◌, ℕ, List, [], ◌∷◌, ◌++◌, decimal}, Global.{Vec}}
use Rattle.{csv.specs.{Writing.{default_writer}, declared.writer.Writer.{Writer}}, process_api.specs.declared.entry.Kind.{Kind}}
use Rattle.reporting.specs.{Inside.Plain.{IsPlain}, Rows.{kind_text, IsBetween, row_of, written}, declared.trace_text.Fields.{Fields}}

-- in the order of the columns, in a row of this kind's name
abbrev pub texts_of : Fields → (kind : List ℕ) → List (List ℕ)
texts_of its kind = decimal its.tick ∷ decimal its.receiver ∷ decimal its.sender ∷ decimal its.number ∷ kind
    ∷ decimal its.sent ∷ decimal its.lost ∷ its.notes.items ∷ []

-- their row was written, where the notes call for no quotes and no row was half written
abbrev pub WroteRow : Fields → Kind → (old new : Writer (Vec ℕ)) → Type 0
WroteRow its kind old new = IsPlain its.notes.items → IsBetween default_writer old
    → written new ≡ written old ++ row_of (texts_of its (kind_text kind))
