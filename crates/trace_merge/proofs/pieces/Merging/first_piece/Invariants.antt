use Rattle.trace_merge.proofs.{Words.{◌≡◌, ◌<◌, ◌++◌, [], map, All, MatchOption, IsPermutation, all_of}, Distinct.{Ahead}, Gathering.{rest_of, still}}
use Rattle.trace_merge.proofs.pieces.Merging.first_piece.Given as goal

abbrev pub invariant-loop-at : goal.invariant-loop-at
invariant-loop-at l = record {
  same : IsPermutation (all_of l.fn.self) (l.merged.entries.items ++ all_of (map rest_of l.lanes.items));
  ahead : Ahead l.merged.entries.items (all_of (map rest_of l.lanes.items));
  before : MatchOption l.at (all_of (map rest_of l.lanes.items) ≡ []) (λ t. All (λ e. e.key.tick < t) l.merged.entries.items);
}

abbrev pub decreases-loop-at : goal.decreases-loop-at
decreases-loop-at l = still l.at
