use Rattle.sweep.proofs.{Words.{rules, ◌≡◌, ◌+◌, ◌++◌, ◌∷◌, [], take, sym, subst, AllZip, AreGroupNumbers, Group, GroupNumbers, limited_run}, Grouped.{zip_more}}
use Rattle.sweep.proofs.run_numbers.RunNumbers.of_limited.Goals as goal

pub loop-group-preserved : goal.loop-group-preserved
loop-group-preserved c =
    let R : Group → GroupNumbers → Type 0 = λ group n. AreGroupNumbers group (limited_run c.args.scenario.now) n in
    let groups = c.args.groups.now in
    let i = c.loop-group._group-index in
    let group = c._group-item.result in
    let pushed : c.push.new.self.items ≡ c.loop-group.numbers.items ++ c.of_limited.result ∷ [] = search rules in
    subst (AllZip R (take (i + 1) groups)) (sym pushed)
    (zip_more R groups c.loop-group.numbers.items i group c.of_limited.result c.loop-group-test.true c._group-item.is c.loop-group.invariant (c.of_limited.ensures group))
