use Rattle.network.proofs.{Basics.{◌≡◌, map, string_bytes, All, Contains, table_view, keys_of, has_unlisted}, Keys.{any_unlisted}}
use Rattle.network.proofs.check.unlisted_key.Given as goal

abbrev pub invariant-loop-key : goal.invariant-loop-key
invariant-loop-key l = record {
  test : has_unlisted (map (λ k. k.now) l.keys) (table_view l.table) ≡ any_unlisted (map (λ k. k.now) l.keys) l.key-iterator;
  there : All (λ k. Contains (keys_of (table_view l.table)) (string_bytes k)) l.key-iterator;
}
