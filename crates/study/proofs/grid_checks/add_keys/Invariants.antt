use Rattle.study.proofs.Basics.{◌≡◌, ◌++◌, map, take, path_of, paths_of}
use Rattle.study.proofs.grid_checks.add_keys.Given as goal

abbrev pub invariant-loop-axis : goal.invariant-loop-axis
invariant-loop-axis l =
    map (λ k. path_of k.now) l.all.items ≡ map (λ k. path_of k.now) l.initial.all.items ++ paths_of
    (take l.axis-index l.axes)
