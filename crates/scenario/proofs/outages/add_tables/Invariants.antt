use Rattle.scenario.proofs.Words.{◌≡◌, take, false, are_bad_outages, tables_in, AreOutagesOf}
use Rattle.scenario.proofs.outages.add_tables.Given as goal

abbrev pub invariant-loop-i : goal.invariant-loop-i
invariant-loop-i l = record {
  clean : are_bad_outages l.n (tables_in (take l.i l.tables)) ≡ false;
  lists : AreOutagesOf l.n (tables_in (take l.i l.tables)) l.lists.items;
}
