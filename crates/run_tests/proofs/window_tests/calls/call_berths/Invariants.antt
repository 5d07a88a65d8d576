use Rattle.{std.specs.{List.{All}, Vec.Iter.{into_iter_items}}, mailboxes.specs.Mailboxes.{IsSlipOf}}
use Rattle.windows.specs.Berth.{IsBerthOf}
use Rattle.run_tests.proofs.window_tests.calls.call_berths.Given as goal

abbrev pub invariant-loop-berth : goal.invariant-loop-berth
invariant-loop-berth g l =
    IsSlipOf l.fn.mailboxes l.slip
    × All (IsBerthOf g.M.Process.mind l.fn.streams) (into_iter_items l.berth-iterator)
