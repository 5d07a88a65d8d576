use Rattle.qos_report.proofs.Words.{take, AreUnderWay}
use Rattle.qos_report.proofs.streaming.write_rows.Given as goal

-- rows of the entries so far
abbrev pub invariant-loop-entry : goal.invariant-loop-entry
invariant-loop-entry g l =
    AreUnderWay g.O.Outlet.told g.O.Outlet.failed l.initial.outlet l.outlet (take l.entry-index l.entries) l.rows
