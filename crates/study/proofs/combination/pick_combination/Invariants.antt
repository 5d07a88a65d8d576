use Rattle.study.proofs.{Basics.{◌≡◌, ◌<◌, ◌++◌, [], length, map, drop, get_or, chosen}, Points.{ways}}
use Rattle.study.proofs.combination.pick_combination.Given as goal

abbrev pub invariant-loop-axis : goal.invariant-loop-axis
invariant-loop-axis l = record {
  alike : l.alike ≡ length (ways (drop l.axis-index l.axes));
  left : l.left < l.alike;
  same : map chosen l.picked.items ++ get_or (ways (drop l.axis-index l.axes)) l.left []
      ≡ map chosen l.initial.picked.items ++ get_or (ways l.axes) l.fn.number [];
}
