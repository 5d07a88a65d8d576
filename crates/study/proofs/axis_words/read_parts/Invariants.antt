use Rattle.study.proofs.Basics.{◌≡◌, ◌++◌, map, drop, flat_map, settings_in}
use Rattle.study.specs.AxisWords.{piece_said, values, parts_fault}
use Rattle.study.proofs.axis_words.read_parts.Given as goal

abbrev pub invariant-loop-word : goal.invariant-loop-word
invariant-loop-word l = record {
  fault : parts_fault (map piece_said (map (λ x. x.now) (drop l.word-index l.words)))
      ≡ parts_fault (map piece_said (map (λ x. x.now) l.words));
  same : settings_in l.settings ++ flat_map values (map piece_said (map (λ x. x.now) (drop l.word-index l.words)))
      ≡ flat_map values (map piece_said (map (λ x. x.now) l.words));
}
