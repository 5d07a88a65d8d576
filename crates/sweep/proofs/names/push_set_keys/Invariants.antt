use Rattle.sweep.proofs.Words.{◌≡◌, ◌++◌, map, take, string_bytes, chosen, key_text}
use Rattle.sweep.proofs.names.push_set_keys.Given as goal

abbrev pub invariant-loop-choice : goal.invariant-loop-choice
invariant-loop-choice l =
    map string_bytes l.names.items
    ≡ map string_bytes l.initial.names.items ++ map key_text (map (λ c. c.path) (map chosen (take l.choice-index l.settings)))
