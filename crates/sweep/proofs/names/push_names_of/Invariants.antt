use Rattle.sweep.proofs.Words.{◌≡◌, ◌++◌, map, take, string_bytes}
use Rattle.sweep.proofs.names.push_names_of.Given as goal

abbrev pub invariant-loop-name : goal.invariant-loop-name
invariant-loop-name l =
    map string_bytes l.names.items ≡ map string_bytes l.initial.names.items ++ map (λ d. d.0.now) (take l.name-index l.columns)
