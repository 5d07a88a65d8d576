use Rattle.study.proofs.Basics.{◌≡◌, ◌++◌, map, take, path_of}
use Rattle.study.proofs.set_twice.add_assigned.Given as goal

abbrev pub invariant-loop-assignment : goal.invariant-loop-assignment
invariant-loop-assignment l =
    map (λ k. path_of k.now) l.all.items ≡ map (λ k. path_of k.now) l.initial.all.items ++ map (λ a. path_of a.key)
    (take l.assignment-index l.assignments)
