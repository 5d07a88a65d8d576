use Rattle.scenario.proofs.Words.{◌≡◌, ◌*◌, ◌++◌, List, map, length, take, false, Members, outage_table, are_bad_outages, AreOutagesOf}
use Rattle.scenario.proofs.outages.add_drawn.Given as goal

abbrev pub invariant-loop-outage : goal.invariant-loop-outage
invariant-loop-outage l = record {
  clean : are_bad_outages l.n (map outage_table (take l.outage-index l.drawn)) ≡ false;
  all : length l.lists.items ≡ l.n * l.n;
  lists : (tables : List Members) → AreOutagesOf l.n tables l.fn.lists.items
      → AreOutagesOf l.n (tables ++ map outage_table (take l.outage-index l.drawn)) l.lists.items;
}
