use Rattle.study_commands.proofs.Words.{◌≡◌, ◌+◌, ◌-◌, ◌≤◌, length, sources_of, AreFirst}
use Rattle.study_commands.proofs.first_runs.first_runs.Given as goal

abbrev pub invariant-loop-next : goal.invariant-loop-next
invariant-loop-next g l = record {
  high : l.next ≤ l.end;
  count : l.begin + length l.all.items ≡ l.next;
  first : AreFirst (sources_of l.sources) l.grid l.begin l.all.items;
}

abbrev pub decreases-loop-next : goal.decreases-loop-next
decreases-loop-next g l = l.end - l.next
