use Rattle.sweep.proofs.Words.{◌≡◌, ◌++◌, map, take, string_bytes, paths_of, key_text}
use Rattle.sweep.proofs.names.push_all_keys.Given as goal

abbrev pub invariant-loop-axis : goal.invariant-loop-axis
invariant-loop-axis l =
    map string_bytes l.names.items ≡ map string_bytes l.initial.names.items ++ map key_text (paths_of (take l.axis-index l.axes))
