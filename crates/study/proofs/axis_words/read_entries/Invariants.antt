use Rattle.study.proofs.{Basics.{◌≤◌, map, length, settings_in}, Pieces.{AreRead}}
use Rattle.study.proofs.axis_words.read_entries.Given as goal

abbrev pub invariant-loop-word : goal.invariant-loop-word
invariant-loop-word l = record {
  read : AreRead l.keys l.words l.word-index (map settings_in l.values.items);
  room : length l.values.items ≤ 1000000;
}
