use Rattle.study.proofs.Basics.{◌≤◌, length, map, take, AllZip, path_of, SaysKey}
use Rattle.study.proofs.axis_words.read_key_words.Given as goal

abbrev pub invariant-loop-word : goal.invariant-loop-word
invariant-loop-word l = record {
  said : AllZip SaysKey (map (λ x. x.now) (take l.word-index l.words)) (map path_of l.keys.items);
  some : l.word-index ≤ length l.keys.items;
}
