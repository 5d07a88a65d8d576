use Rattle.windows.proofs.Words.{IsMergeOf, rules, ◌≡◌, ◌∙◌, eqb-false, false, ◌++◌, [], inl, inr, refl, ⊎_elim, sym, subst, arith, length, length-append, map, nil_from_length, length_permutation, ap, writes_of, all_of, nothing_merges}
use Rattle.windows.proofs.{Handed.{on_err}, Waiting.{merged_of, took_no_more, took_nothing, took_piece, took_whole}}
use Rattle.windows.proofs.run.hand_on.Goals as goal

pub returns-in_err-merging-clause-front : goal.returns-in_err-merging-clause-front
returns-in_err-merging-clause-front g c =
    let parts = c.args.parts.items in
    on_err c.from_residual.result _ (took_no_more g.K.Sink.took parts (took_nothing g.K.Sink.took parts c.args.sink.now) [] (map (λ part. part.items) parts) (λ rest is. is) g.K.Sink.took_front c.args.sink.now (merged_of parts c.requires.parts) (inl (refl, refl)))

pub loop-piece-init : goal.loop-piece-init
loop-piece-init g c =
    let same = c.in_ok-merging.ensures.same in
    let merged = merged_of c.args.parts.items c.requires.parts in
    record { so_far = ([], refl, λ rest is. subst (λ ls. IsMergeOf ls rest) same is); left = (merged.0, subst (λ ls. IsMergeOf ls merged.0) (sym same) merged.1); count = refl }

pub returns-in_err-piece-clause-front : goal.returns-in_err-piece-clause-front
returns-in_err-piece-clause-front g c =
    let h = c.loop-piece.invariant in
    on_err c.from_residual-in_err-piece.result _ (took_no_more g.K.Sink.took c.args.parts.items h.so_far [] c.loop-piece.merging (λ rest is. is) g.K.Sink.took_front c.loop-piece.sink h.left (inl (refl, refl)))

pub returns-then-is_empty-clause-took : goal.returns-then-is_empty-clause-took
returns-then-is_empty-clause-took g c =
    let call = c.in_ok-piece.ensures in
    let piece = c.in_ok-piece.piece.items in
    let empty : length piece ≡ 0 = search rules in
    let none : all_of c.in_ok-piece.rest ≡ [] = ⊎_elim (λ many. absurd (omega (arith, many, empty))) (λ is. is) call.enough in
    let all = length_permutation (all_of c.loop-piece.merging) (piece ++ []) (call.front [] (nothing_merges c.in_ok-piece.rest none)).same in
    took_whole g.K.Sink.took c.args.parts.items c.loop-piece.invariant.so_far (nil_from_length _ (omega (arith, all, length-append piece [], empty)))

pub returns-in_err-part-clause-front : goal.returns-in_err-part-clause-front
returns-in_err-part-clause-front g c =
    let call = c.in_ok-piece.ensures in
    on_err c.from_residual-in_err-part.result _ (took_no_more g.K.Sink.took c.args.parts.items c.loop-piece.invariant.so_far c.in_ok-piece.piece.items c.in_ok-piece.rest call.front g.K.Sink.took_front c.part.new.self call.left (inr c.in_err-part.ensures.front))

pub loop-piece-smaller : goal.loop-piece-smaller
loop-piece-smaller g c =
    let call = c.in_ok-piece.ensures in
    let piece = c.in_ok-piece.piece.items in
    let rest = call.left.0 in
    let full : c.is_empty.result ≡ false = search rules in
    omega (arith, eqb-false _ _ (sym c.is_empty.ensures ∙ full), c.in_ok-piece.piece.ok.0, length-append piece rest, length_permutation (all_of c.in_ok-piece.rest) rest call.left.1.same, length_permutation (all_of c.loop-piece.merging) (piece ++ rest) (call.front rest call.left.1).same)

pub loop-piece-preserved : goal.loop-piece-preserved
loop-piece-preserved g c =
    let h = c.loop-piece.invariant in
    let call = c.in_ok-piece.ensures in
    let fine : writes_of c.part.result ≡ 0 = ap writes_of c.in_ok-part.was in
    let so_far = took_piece g.K.Sink.took c.args.parts.items h.so_far c.in_ok-piece.piece.items c.in_ok-piece.rest call.front c.part.new.self c.in_ok-part.ensures.whole in
    record { so_far = so_far; left = call.left; count = omega (arith, c.part.ensures.count, fine, h.count) }
