use Rattle.steps.proofs.Words.{◌≡◌, ◌≤◌, ◌+◌, ◌++◌, ℕ, length, vec_len, AllByRecursion, drop, IsAllowed, StillServes, setting_of, posted_by, count_of, counts_after, added, sent, lost, noted, Joined}
use Rattle.steps.proofs.links.Links.perform.Given as goal

-- what was done so far, and what the rest does, is what all actions do
abbrev pub invariant-loop-place : goal.invariant-loop-place
invariant-loop-place g l =
    let S = setting_of l.fn.streams in
    let p = l.fn.key.receiver in
    let now = l.fn.key.tick in
    let all = l.fn.actions.items in
    let rest = drop l.place l.actions.items in
    let here = count_of l.self.counts.items in
    let before = count_of l.fn.self.counts.items in
    record {
      many : length l.actions.items ≡ length all;
      counts : counts_after p here rest ≡ counts_after p before all;
      places : vec_len l.self.counts ≡ l.fn.streams.processes + 1;
      horizon : l.self.horizon ≡ l.fn.streams.horizon;
      room : (q : ℕ) → here q + length rest ≤ before q + length all;
      serves : StillServes g.J.Joins.serves l.fn.added l.added;
      added : Joined g.J.Joins.grown l.fn.added l.added (added S p now here rest) (added S p now before all);
      heard : Joined g.L.Listener.heard l.fn.listener l.listener (posted_by S p now here rest) (posted_by S p now before all);
      sent : l.done.sent + sent rest ≡ sent all;
      lost : l.done.lost + lost S p now here rest ≡ lost S p now before all;
      notes : l.done.notes ++ noted rest ≡ noted all;
      allowed : AllByRecursion (IsAllowed l.fn.streams.processes) rest;
      sent_few : l.done.sent + length rest ≤ length all;
      lost_few : l.done.lost + length rest ≤ length all;
    }
