use Rattle.scenario.proofs.{Words.{◌≡◌, string_bytes, All, Contains, table_view, has_unlisted, keys_of, fields_of}, FieldFacts.{any_unlisted}}
use Rattle.scenario.proofs.table.unlisted_key.Given as goal

abbrev pub invariant-loop-key : goal.invariant-loop-key
invariant-loop-key l = record {
  test : has_unlisted (fields_of l.fields) (table_view l.table) ≡ any_unlisted (fields_of l.fields) l.key-iterator;
  there : All (λ k. Contains (keys_of (table_view l.table)) (string_bytes k)) l.key-iterator;
}
