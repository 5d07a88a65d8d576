use Rattle.study.proofs.Basics.{◌≡◌, map, drop, list_any, path_of, meets}
use Rattle.study.proofs.key.meets_any.Given as goal

abbrev pub invariant-loop-other : goal.invariant-loop-other
invariant-loop-other l =
    list_any (meets (path_of l.key)) (map (λ k. path_of k.now) l.keys) ≡ list_any (meets (path_of l.key))
    (map (λ k. path_of k.now) (drop l.other-index l.keys))
