use Rattle.study.proofs.Basics.{◌≡◌, ◌++◌, map, drop, length, chosen, path_of, given_by, set_to}
use Rattle.study.proofs.combination.push_choices.Given as goal

abbrev pub invariant-loop-key : goal.invariant-loop-key
invariant-loop-key l =
    map chosen l.picked.items ++ set_to (map path_of (drop (length l.yielded) l.keys))
    (map given_by (drop (length l.yielded) l.settings))
    ≡ map chosen l.initial.picked.items ++ set_to (map path_of l.keys) (map given_by l.settings)
