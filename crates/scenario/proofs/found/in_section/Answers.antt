use Rattle.scenario.proofs.{Words.{rules, sym, table_view, section_error, IsFoundBy}, Findings.{value_fault}}
use Rattle.scenario.specs.declared.place.Place.TheVariants as place
use Rattle.scenario.proofs.found.in_section.Goals as goal

pub returns : goal.returns
unfolding IsFoundBy
returns c = record {
  table = table_view c.in_ok-table.table.now;
  there = sym (search rules);
  is = value_fault (section_error c.args.section) (table_view c.args.top.now) (place.Section c.args.section) (table_view c.in_ok-table.table.now) c.in_ok-fault.fault (c.in_ok-fault.ensures (table_view c.args.top.now));
}
