use Rattle.sweep.proofs.{Words.{rules, ◌≡◌, ◌+◌, ◌++◌, ◌∷◌, [], take, refl, sym, subst, arith, AllZip, done_run, AreGroupNumbers, Group, GroupNumbers}, Grouped.{zip_more, zip_all}}
use Rattle.sweep.proofs.run_numbers.RunNumbers.of_run.Goals as goal

pub loop-group-preserved : goal.loop-group-preserved
loop-group-preserved c found =
    let R : Group → GroupNumbers → Type 0 = λ group n. AreGroupNumbers group (done_run c.args.scenario.now found.trace) n in
    let groups = c.args.groups.now in
    let i = c.loop-group.group-index in
    let n = c.in_ok-its.its in
    let pushed : c.push.new.self.items ≡ c.loop-group.numbers.items ++ n ∷ [] = search rules in
    subst (AllZip R (take (i + 1) groups)) (sym pushed)
    (zip_more R groups c.loop-group.numbers.items i c.group-item.result n c.loop-group-test.true c.group-item.is (c.loop-group.invariant found) (c.in_ok-its.ensures found))

pub returns : goal.returns
returns c found =
    let R : Group → GroupNumbers → Type 0 = λ group n. AreGroupNumbers group (done_run c.args.scenario.now found.trace) n in
    record {
      each = zip_all R c.args.groups.now c.loop-group.numbers.items c.loop-group.group-index (omega arith) (omega arith) (c.loop-group.invariant found);
      limited = refl;
    }
