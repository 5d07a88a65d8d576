use Rattle.{std.proofs.Common.{rules}, toml.specs.View.{table_view}, diagnosis.proofs.Telling.{told_ok}}
use Rattle.diagnosis.proofs.answer.diagnose.Goals as goal

pub returns-in-Ok : goal.returns-in-Ok
returns-in-Ok c = told_ok c.args.bytes.now (table_view c.in-Ok.table) c.diagnose_table.result (search (rules, c.in-Ok.ensures.ok)) c.diagnose_table.ensures
