use Rattle.windows.proofs.Words.{◌≡◌, ◌≤◌, ◌+◌, ◌*◌, ◌-◌, ◌++◌, List, length, map, vec_len, most_step_actions, EntryRecord, Letter, setting_of, process_of, own_of, IsSeated, event_of, all_filed, BerthStands}
use Rattle.windows.proofs.berth.run_into.Given as goal

abbrev pub invariant-loop-event : goal.invariant-loop-event
invariant-loop-event g l =
    let mind = g.M.Process.mind in
    let s = l.fn.streams in
    let b = l.fn.berth in
    let p = own_of mind b.seat in
    record {
      fits : length l.tray ≡ length l.fn.tray;
      own : own_of mind l.berth.seat ≡ p;
      stands : (letters : List Letter) × (l.tray ≡ all_filed l.fn.tray letters) × (made : List EntryRecord) × (l.berth.part.items ≡ b.part.items ++ made)
          × BerthStands (setting_of s) p l.end (process_of mind b.seat) b.pending (process_of mind l.berth.seat) l.berth.pending made (map event_of letters);
      seated : (most : _) → IsSeated mind s (most + most_step_actions * length b.part.items) b.seat → IsSeated mind s (most + most_step_actions * length l.berth.part.items) l.berth.seat;
      within : vec_len l.berth.part ≤ l.left;
    }

abbrev pub decreases-loop-event : goal.decreases-loop-event
decreases-loop-event g l = l.left - vec_len l.berth.part
