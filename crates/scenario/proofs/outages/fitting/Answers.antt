use Rattle.std.proofs.Common.{sym, ◌∙◌, rules}
use Rattle.scenario.proofs.DrawnTables.{bad_drawn}
use Rattle.scenario.proofs.outages.fitting.Goals as goal

pub returns-clause-test : goal.returns-clause-test
returns-clause-test c = sym (bad_drawn c.args.n c.args.outage ∙ search rules)
