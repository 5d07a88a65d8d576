use Rattle.study.proofs.Basics.{◌≡◌, ◌++◌, map, take, path_of}
use Rattle.study.proofs.grid_checks.add_axis.Given as goal

abbrev pub invariant-loop-key : goal.invariant-loop-key
invariant-loop-key l =
    map (λ k. path_of k.now) l.all.items ≡ map (λ k. path_of k.now) l.initial.all.items ++ map path_of
    (take l.key-index l.keys)
