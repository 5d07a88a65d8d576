use Rattle.trace_merge.proofs.Words.{◌≡◌, ◌<◌, ◌≤◌, ◌++◌, [], map, take, length, All, MatchOption, IsPermutation, all_of}
use Rattle.trace_merge.proofs.by_tick.take_tick.Given as goal

abbrev pub invariant-loop-at : goal.invariant-loop-at
invariant-loop-at l = record {
  same : IsPermutation (l.fn.merged.entries.items ++ all_of (map (λ p. p.rest.items) l.fn.lanes)) (l.merged.entries.items ++ all_of (map (λ p. p.rest.items) l.lanes));
  count : length l.lanes ≡ length l.fn.lanes;
  early : All (λ e. e.key.tick ≤ l.tick) l.fn.merged.entries.items → All (λ e. e.key.tick ≤ l.tick) l.merged.entries.items;
  late : All (λ e. l.tick < e.key.tick) (all_of (map (λ p. p.rest.items) (take l.at l.lanes)));
  later : MatchOption l.least (all_of (map (λ p. p.rest.items) (take l.at l.lanes)) ≡ []) (λ t. l.tick < t);
}
