use Rattle.windows.proofs.Words.{IsMergeOf, ◌≡◌, List, length, EntryRecord, TookAllBut, all_of}
use Rattle.windows.proofs.run.hand_on.Given as goal

abbrev pub invariant-loop-piece : goal.invariant-loop-piece
invariant-loop-piece g l = record {
  so_far : TookAllBut g.K.Sink.took l.fn.parts.items l.merging l.initial.sink l.sink;
  left : (rest : List EntryRecord) × IsMergeOf l.merging rest;
  count : g.K.Sink.failed l.sink ≡ g.K.Sink.failed l.initial.sink;
}

abbrev pub decreases-loop-piece : goal.decreases-loop-piece
decreases-loop-piece g l = length (all_of l.merging)
