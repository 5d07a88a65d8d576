use Rattle.scenario.proofs.Words.{◌≡◌, drop, list_any, table_view, has_mistyped, is_mistyped, field_of, fields_of}
use Rattle.scenario.proofs.table.mistyped_key.Given as goal

abbrev pub invariant-loop-field : goal.invariant-loop-field
invariant-loop-field l = has_mistyped (fields_of l.fields) (table_view l.table) ≡ list_any (λ f. is_mistyped (field_of f) (table_view l.table)) (drop l.field-index l.fields)
