use Rattle.scenario.proofs.Words.{◌≡◌, drop, list_any, is_listed, same_text, fields_of}
use Rattle.scenario.proofs.table.is_listed_key.Given as goal

abbrev pub invariant-loop-field : goal.invariant-loop-field
invariant-loop-field l = is_listed (fields_of l.fields) l.key ≡ list_any (λ f. same_text f.key.now l.key) (drop l.field-index l.fields)
