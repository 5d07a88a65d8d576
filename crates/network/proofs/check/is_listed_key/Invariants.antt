use Rattle.network.proofs.Basics.{◌≡◌, drop, map, list_any, same_text, is_listed}
use Rattle.network.proofs.check.is_listed_key.Given as goal

abbrev pub invariant-loop-listed : goal.invariant-loop-listed
invariant-loop-listed l = is_listed (map (λ k. k.now) l.keys) l.key ≡ list_any (λ k. same_text k.now l.key) (drop l.listed-index l.keys)
