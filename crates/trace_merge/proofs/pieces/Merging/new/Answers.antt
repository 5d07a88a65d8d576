use Rattle.trace_merge.proofs.{Words.{arith, nil_from_length, ◌≡◌, ◌++◌, [], ◌∷◌, map, ap, ◌∙◌, sym, subst, All, All-tail, IsTrue, append-nil, append_assoc, map-append, is_rising, into_iter_items, AllDiffer, all_of}, Distinct.{all_differ}}
use Rattle.trace_merge.proofs.Gathering.{items_of, rest_of}
use Rattle.trace_merge.proofs.pieces.Merging.new.Goals as goal

pub loop-part-preserved : goal.loop-part-preserved
loop-part-preserved c =
    let rest = into_iter_items c.next.new.self in
    let lanes = c.loop-part.lanes.items in
    let e : into_iter_items c.loop-part.part-iterator ≡ c.in-Some.part ∷ rest = c.in-Some.ensures.steps.0 in
    record {
      rising = All-tail (λ part. IsTrue (is_rising part.items)) c.in-Some.part rest (subst (All (λ part. IsTrue (is_rising part.items))) e c.loop-part.invariant.rising);
      same = ap (λ ls. map rest_of ls ++ map items_of rest) c.in_ok-push.ensures.items ∙ (ap (λ ls. ls ++ map items_of rest) (map-append rest_of lanes _)
          ∙ (append_assoc (map rest_of lanes) (c.into-rest.result.items ∷ []) (map items_of rest) ∙ (ap (λ es. map rest_of lanes ++ es ∷ map items_of rest) c.into-rest.ensures.0
          ∙ (ap (λ ps. map rest_of lanes ++ map items_of ps) (sym e) ∙ c.loop-part.invariant.same))));
    }

pub invariant_of-result : goal.invariant_of-result
invariant_of-result c =
    let lanes = map rest_of c.loop-part.lanes.items in
    let it = c.loop-part.part-iterator.rest in
    let none : it.items ≡ [] = nil_from_length it.items (omega (arith, c.in-None.ensures.steps.0, it.ok.0)) in
    let same = sym (append-nil lanes) ∙ subst (λ ps. lanes ++ map items_of ps ≡ map items_of c.args.parts.items) none c.loop-part.invariant.same in
    subst (λ ls. AllDiffer (all_of ls)) (sym same) (all_differ items_of c.args.parts.items c.requires.rising c.requires.disjoint)
