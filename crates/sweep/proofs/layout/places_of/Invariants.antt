use Rattle.sweep.proofs.Words.{◌≡◌, map, take, string_bytes, Some, place_of}
use Rattle.sweep.proofs.layout.places_of.Given as goal

abbrev pub invariant-loop-word : goal.invariant-loop-word
invariant-loop-word l =
    map (place_of (map string_bytes l.names)) (take l.word-index (map (λ x. x.now) l.words)) ≡ map Some l.places.items
