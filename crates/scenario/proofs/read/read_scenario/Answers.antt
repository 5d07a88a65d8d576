use Rattle.scenario.proofs.{Words.{rules, table_view}, Reading.{refused}}
use Rattle.scenario.proofs.read.read_scenario.Goals as goal

pub returns-in-Ok-clause-err : goal.returns-in-Ok-clause-err
returns-in-Ok-clause-err c = refused c.args.bytes.now (table_view c.in-Ok.table) c.read_table.result (search (rules, c.in-Ok.ensures.ok)) c.read_table.ensures.judged
