use Rattle.process_api.proofs.Rows.{no_senders}
use Rattle.process_api.proofs.row.Row.new.Goals as goal

pub invariant_of-result : goal.invariant_of-result
invariant_of-result g c = record { counted = no_senders _ _ c.new-2.ensures c.new.ensures.items }
