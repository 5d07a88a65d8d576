use Rattle.event_list.proofs.{Words.{◌≡◌, ◌≤◌, ◌*◌, ◌-◌, map, vec_len, All, HaveJoined, setting_of, process_of, IsSeated, most_step_actions}, Recording.{Going}}
use Rattle.event_list.proofs.list.run_list_into.Given as goal

abbrev pub invariant-loop-list : goal.invariant-loop-list
invariant-loop-list g l =
    let mind = g.M.Process.mind in
    let followed = g.F.Follower.followed in
    record {
      going : Going (setting_of l.fn.scenario) (map (process_of mind) l.list.seats.items) l.list.pending (followed l.fn.follower l.fn.follower) (followed l.fn.follower l.follower) (HaveJoined g.L.Listener.heard l.fn.listener l.listener) l.taken;
      seated : All (IsSeated mind l.fn.scenario (most_step_actions * l.taken)) l.list.seats.items;
      count : vec_len l.list.seats ≡ l.fn.scenario.processes;
      within : l.taken ≤ l.fn.scenario.limit;
    }

abbrev pub decreases-loop-list : goal.decreases-loop-list
decreases-loop-list g l = l.fn.scenario.limit - l.taken
