use Rattle.windows.proofs.Words.{◌≡◌, ◌++◌, map, All, into_iter_items, process_of, IsMindIn, opened, IsOpened}
use Rattle.windows.proofs.stage.berths_of.Given as goal

abbrev pub invariant-loop-machine : goal.invariant-loop-machine
invariant-loop-machine g l =
    let mind = g.M.Process.mind in
    let rest = into_iter_items l.machine-iterator in
    record {
      made : map (λ b. process_of mind b.seat) l.berths.items ++ map opened (map mind rest) ≡ map opened (map mind l.fn.machines.items);
      berths : All (IsOpened mind l.fn.scenario) l.berths.items;
      left : All (λ m. IsMindIn l.fn.scenario (mind m)) rest;
    }
