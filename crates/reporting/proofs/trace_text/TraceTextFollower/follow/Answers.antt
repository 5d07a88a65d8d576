use Rattle.reporting.proofs.{Words.{◌∙◌, ◌++◌, ◌∷◌, [], ap, sym, subst, append_assoc, row_of}, Fed.{on_ok}, Written.{rows_both, rows_one}}
use Rattle.reporting.specs.TraceText.{Holds, fields_of, rows_text}
use Rattle.reporting.proofs.trace_text.TraceTextFollower.follow.Goals as goal

pub returns : goal.returns
returns c =
    let entry = c.args.entry.now in
    on_ok c.push.result
    (λ pushed first told was text held.
    subst (Holds c.push.new.self)
    (append_assoc text (rows_text told) (row_of (fields_of entry))
    ∙ ap (λ t. text ++ t) (sym (rows_both told (entry ∷ []) ∙ ap (λ t. rows_text told ++ t) (rows_one entry))))
    (pushed (text ++ rows_text told) (was text held)))
    c.push.ensures
