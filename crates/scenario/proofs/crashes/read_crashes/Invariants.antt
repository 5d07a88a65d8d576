use Rattle.scenario.proofs.{Words.{◌≡◌, take, false, crash_tick, are_bad_crashes, tables_in}, KeyFacts.{process_keys}, Slots.{AreHeld, once}}
use Rattle.scenario.proofs.crashes.read_crashes.Given as goal

abbrev pub invariant-loop-i : goal.invariant-loop-i
invariant-loop-i l = record {
  clean : are_bad_crashes l.n (tables_in (take l.i l.tables)) ≡ false;
  hold : AreHeld (process_keys l.n) (once crash_tick) l.ticks.items (tables_in (take l.i l.tables));
}
