use Rattle.{toml.specs.View.{table_view}, network.proofs.InRange.{in_range}}
use Rattle.network.proofs.read.read_network.Goals as goal

pub returns-clause-ok : goal.returns-clause-ok
returns-clause-ok c = record {
  is_file = c.in_ok-check_file.ensures.ok;
  says = c.in_ok-read_all.ensures;
  ranges = in_range (table_view c.args.table.now) c.in_ok-read_all.field-0 c.in_ok-check_file.ensures.ok c.in_ok-read_all.ensures;
}
