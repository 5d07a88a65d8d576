use Rattle.sweep.proofs.Words.{◌≡◌, ◌++◌, map, take, string_bytes, path_of, key_text}
use Rattle.sweep.proofs.names.push_keys.Given as goal

abbrev pub invariant-loop-key : goal.invariant-loop-key
invariant-loop-key l =
    map string_bytes l.names.items ≡ map string_bytes l.initial.names.items ++ map key_text (map path_of (take l.key-index l.keys))
