use Rattle.windows.proofs.Words.{◌≡◌, with_lists, ArePosting, IsWorkBy}
use Rattle.windows.proofs.workers.run_berths.Given as goal

abbrev pub invariant-loop : goal.invariant-loop
invariant-loop g l =
    IsWorkBy g.M.Process.mind l.shared l.hand (with_lists l.slip l.tray) l.done.items
    × ArePosting l.shared.mailboxes.now l.slip l.tray
    × (l.hand.known ≡ l.initial.hand.known) × (l.hand.own ≡ l.initial.hand.own)
