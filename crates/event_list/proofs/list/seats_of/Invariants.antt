use Rattle.event_list.proofs.Words.{◌≡◌, ◌++◌, map, All, into_iter_items, process_of, IsMindIn, IsSeated, opened}
use Rattle.event_list.proofs.list.seats_of.Given as goal

abbrev pub invariant-loop-machine : goal.invariant-loop-machine
invariant-loop-machine g l =
    let mind = g.M.Process.mind in
    let rest = into_iter_items l.machine-iterator in
    record {
      made : map (process_of mind) l.seats.items ++ map opened (map mind rest) ≡ map opened (map mind l.fn.machines.items);
      seated : All (IsSeated mind l.fn.scenario 0) l.seats.items;
      left : All (λ m. IsMindIn l.fn.scenario (mind m)) rest;
    }
