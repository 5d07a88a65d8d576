use Rattle.study.proofs.Basics.{◌≡◌, ◌≤◌, map, take, drop, length, path_of, first_again}
use Rattle.study.proofs.key.first_again.Given as goal

abbrev pub invariant-loop-i : goal.invariant-loop-i
invariant-loop-i l = record {
  same : first_again (map (λ k. path_of k.now) (take l.fn.from l.keys)) (map (λ k. path_of k.now) (drop l.fn.from l.keys))
      ≡ first_again (map (λ k. path_of k.now) (take l.i l.keys)) (map (λ k. path_of k.now) (drop l.i l.keys));
  within : l.i ≤ length l.keys;
}
