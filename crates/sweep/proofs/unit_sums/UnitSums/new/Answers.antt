use Rattle.sweep.proofs.{Words.{rules, ◌≡◌, ◌+◌, ◌++◌, ◌∷◌, [], take, sym, subst, AllZip, AreSums, Group, PointSums}, Grouped.{zip_more}}
use Rattle.sweep.proofs.unit_sums.UnitSums.new.Goals as goal

pub loop-group-preserved : goal.loop-group-preserved
loop-group-preserved c =
    let R : Group → PointSums → Type 0 = λ group s. AreSums group c.args.first [] s in
    let groups = c.args.groups.now in
    let i = c.loop-group._group-index in
    let group = c._group-item.result in
    let pushed : c.push.new.self.items ≡ c.loop-group.sums.items ++ c.new.result ∷ [] = search rules in
    subst (AllZip R (take (i + 1) groups)) (sym pushed)
    (zip_more R groups c.loop-group.sums.items i group c.new.result c.loop-group-test.true c._group-item.is c.loop-group.invariant (c.new.ensures group))
