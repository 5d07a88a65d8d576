use Rattle.scenario.proofs.{Words.{refl, table_view, IsFoundBy}, Findings.{value_fault}}
use Rattle.scenario.specs.declared.place.Place.TheVariants as place
use Rattle.scenario.proofs.found.at_top.Goals as goal

pub returns : goal.returns
unfolding IsFoundBy
returns c = record {
  table = table_view c.args.top.now;
  there = refl;
  is = value_fault c.args.error.now (table_view c.args.top.now) place.Top (table_view c.args.top.now) c.in_ok-fault.fault c.in_ok-fault.ensures;
}
