use Rattle.windows.proofs.Words.{◌≡◌, ◌++◌, List, IsPermutation, with_lists, ArePosting, AreRunBy, Berth}
use Rattle.windows.proofs.gather.run_rest.Given as goal

abbrev pub invariant-loop : goal.invariant-loop
invariant-loop g l =
    (last : List (Berth g.row.M.Denot))
    × AreRunBy g.M.Process.mind l.shared.window.now.streams l.shared.window.now.end l.shared.mailboxes.now last (with_lists l.slip l.tray) l.done.items
    × ArePosting l.shared.mailboxes.now l.slip l.tray
    × (l.rest.own ≡ l.initial.rest.own) × (l.rest.out ≡ 0) × IsPermutation (l.initial.rest.taken ++ last) l.rest.taken
