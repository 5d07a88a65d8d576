use Rattle.sweep.proofs.Words.{◌≤◌, ◌<◌, ◌-◌, ◌*◌, ℕ, [], HaveJoined, sources_of, IsReadyAt}
use Rattle.sweep.proofs.checking.check_runs.Given as goal

abbrev pub invariant-loop-next : goal.invariant-loop-next
invariant-loop-next g l = record {
  low : l.begin * l.runs ≤ l.next;
  high : l.next ≤ l.end * l.runs;
  heard : HaveJoined g.W.Watcher.heard l.fn.watcher l.watcher [];
  read : (n : ℕ) → l.begin * l.runs ≤ n → n < l.next → IsReadyAt (sources_of l.sources) l.grid l.groups n;
}

abbrev pub decreases-loop-next : goal.decreases-loop-next
decreases-loop-next g l = l.end * l.runs - l.next
