use Rattle.process_api.proofs.Basics.{◌≡◌, ◌*◌, ◌≤◌, is_set, members}
use Rattle.std.specs.FinSet as set
use Rattle.process_api.proofs.words.count.Given as goal

abbrev pub invariant-loop-k : goal.invariant-loop-k
invariant-loop-k l = record {
  counted : l.count ≡ set.len (members (l.k * 64) (is_set l.words));
  few : l.count ≤ l.k * 64;
}
