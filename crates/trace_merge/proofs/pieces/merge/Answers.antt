use Rattle.trace_merge.proofs.{Words.{◌≡◌, [], subst, arith, map, all_of, ⊎_elim, append-nil, IsMergeOf}, Exists.{nothing_merges}, Gathering.{items_of}}
use Rattle.trace_merge.proofs.pieces.merge.Goals as goal

-- nothing is left, since no list has so many entries
whole : (c : goal.After-drop-rest-inside) → IsMergeOf (map items_of c.args.parts.items) c.in_ok-merged.merged.items
whole c =
    let merged = c.in_ok-merged.merged in
    let call = c.in_ok-merged.ensures in
    let none : all_of c.in_ok-merged._rest ≡ [] = ⊎_elim (λ many. absurd (omega (arith, many, merged.ok))) (λ is. is) call.enough in
    subst (λ ls. IsMergeOf ls merged.items) c.in_ok-merging.ensures.same
    (subst (IsMergeOf c.in_ok-merging.merging) (append-nil merged.items) (call.front [] (nothing_merges c.in_ok-merged._rest none)))

pub returns-clause-rising : goal.returns-clause-rising
returns-clause-rising c = (whole c).rising

pub returns-clause-same : goal.returns-clause-same
returns-clause-same c = (whole c).same
