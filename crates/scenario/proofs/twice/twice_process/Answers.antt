use Rattle.scenario.proofs.{Words.{refl, rules, arith, codes, to_z, of_z, w64, table_view}, Elements.{numbered_table}, Findings.{has_it}}
use Rattle.scenario.proofs.twice.twice_process.Goals as goal

pub returns-then-has_integer_at : goal.returns-then-has_integer_at
returns-then-has_integer_at c = λ file are. (
  refl,
  record {
    before = omega arith;
    first = table_view c.index-tables-j.result.now;
    first_there = numbered_table c.args.tables.now file (codes "crash") c.loop-j.j c.index-tables-j.result are (record { low = omega arith; is = c.index-tables-j.is });
    first_is = search rules;
    second = table_view c.index-tables-i.result.now;
    second_there = numbered_table c.args.tables.now file (codes "crash") c.args.i c.index-tables-i.result are (record { low = omega arith; is = c.index-tables-i.is });
    second_is = has_it (codes "process") (to_z w64 (of_z w64 c.in_ok-process.process)) (table_view c.index-tables-i.result.now) (search rules);
  },
)
