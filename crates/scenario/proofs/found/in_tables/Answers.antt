use Rattle.scenario.proofs.{Words.{◌+◌, array_error, table_view, array_key, IsFoundBy}, Elements.{IsAt, numbered_table}, Findings.{value_fault}}
use Rattle.scenario.proofs.found.in_tables.Goals as goal

pub returns-in-Some : goal.returns-in-Some
unfolding IsFoundBy
returns-in-Some c = λ file are same.
    let spot : IsAt c.args.tables.now c.loop-i.i c.index-tables-i.result = record { low = c.loop-i-test.true; is = c.index-tables-i.is } in
    let error = array_error c.args.array in
    record {
      table = table_view c.index-tables-i.result.now;
      there = rw c.place-place.ensures (numbered_table c.args.tables.now file (array_key c.args.array) c.loop-i.i c.index-tables-i.result are spot);
      is = value_fault error file c.place-place.result (table_view c.index-tables-i.result.now) c.in-Some.fault
          (rw c.place-place.ensures (rw c.in-Some.is at (c.element_fault.ensures file (c.loop-i.i + 1) same)));
    }
