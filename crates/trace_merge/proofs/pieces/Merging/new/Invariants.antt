use Rattle.trace_merge.proofs.Words.{◌≡◌, ◌++◌, map, All, IsTrue, is_rising, into_iter_items}
use Rattle.trace_merge.proofs.pieces.Merging.new.Given as goal

abbrev pub invariant-loop-part : goal.invariant-loop-part
invariant-loop-part l = record {
  rising : All (λ part. IsTrue (is_rising part.items)) (into_iter_items l.part-iterator);
  same : map (λ p. p.rest.items) l.lanes.items ++ map (λ p. p.items) (into_iter_items l.part-iterator) ≡ map (λ p. p.items) l.fn.parts.items;
}
