use Rattle.scenario.proofs.{Words.{refl, rules, arith, codes, to_z, of_z, w64, table_view}, Elements.{numbered_table}, Findings.{both_it}}
use Rattle.scenario.proofs.twice.twice_pair.Goals as goal

pub returns-then-is_of_pair : goal.returns-then-is_of_pair
returns-then-is_of_pair c = λ file are. (
  refl,
  record {
    before = omega arith;
    first = table_view c.index-tables-k.result.now;
    first_there = numbered_table c.args.tables.now file (codes "links") c.loop-k.k c.index-tables-k.result are (record { low = omega arith; is = c.index-tables-k.is });
    first_is = search rules;
    second = table_view c.index-tables-i.result.now;
    second_there = numbered_table c.args.tables.now file (codes "links") c.args.i c.index-tables-i.result are (record { low = omega arith; is = c.index-tables-i.is });
    second_is = both_it (to_z w64 (of_z w64 c.in_ok-from.from)) (to_z w64 (of_z w64 c.in_ok-to.to)) (table_view c.index-tables-i.result.now) (search rules) (search rules);
  },
)
