use Rattle.scenario.proofs.Words.{◌≡◌, take, false, list_any, fault_of, tables_in, fields_of_array}
use Rattle.scenario.proofs.keys.KeyFault.among.Given as goal

abbrev pub invariant-loop-i : goal.invariant-loop-i
invariant-loop-i l = list_any (fault_of l.self (fields_of_array l.array)) (tables_in (take l.i l.tables)) ≡ false
