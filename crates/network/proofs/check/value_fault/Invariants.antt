use Rattle.network.proofs.Basics.{◌≡◌, drop, is_some, list_any, table_view, fault_at, field_of, fields_of, has_fault}
use Rattle.network.proofs.check.value_fault.Given as goal

abbrev pub invariant-loop-field : goal.invariant-loop-field
invariant-loop-field l = has_fault (fields_of l.fields) (table_view l.table) ≡ list_any (λ f. is_some (fault_at (field_of f) (table_view l.table))) (drop l.field-index l.fields)
