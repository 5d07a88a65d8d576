use Rattle.sweep.proofs.{Words.{rules, ◌≡◌, ◌<◌, ◌≤◌, length, min, arith, AreSums, AreGroupNumbers, Group, GroupNumbers, AllZip-long, PointSums}, Grouped.{added_more, all_added}}
use Rattle.sweep.proofs.unit_sums.UnitSums.add.Goals as goal

pub loop-place-preserved : goal.loop-place-preserved
loop-place-preserved c =
    let numbers = c.args.numbers.now.groups.items in
    let old = c.args.self.now.groups.items in
    let i = c.loop-place.place in
    let lt : i < min (length old) (length numbers) = omega (arith, c.loop-place-test.true, c.min-count.ensures, c.len.ensures, c.len-2.ensures) in
    record {
      low = search rules;
      added = added_more i numbers old c.loop-place.self.groups.items c.index.result.now c.index_mut.result.now c.add.new.self (omega (arith, lt)) (omega (arith, lt))
          c.index.ensures c.index_mut.ensures.value c.in_ok-add.ensures c.loop-place.invariant.added;
    }

pub returns : goal.returns
returns c groups first trials trial few sums are =
    let numbers = c.args.numbers.now.groups.items in
    let old = c.args.self.now.groups.items in
    let added = c.loop-place.invariant.added in
    let S : Group → PointSums → Type 0 = λ group s. AreSums group first trials s in
    let N : Group → GroupNumbers → Type 0 = λ group n. AreGroupNumbers group trial n in
    let past : min (length old) (length numbers) ≤ c.loop-place.place = omega (arith, c.loop-place-test.false, c.min-count.ensures, c.len.ensures, c.len-2.ensures) in
    let as_old : length old ≡ length groups = AllZip-long S groups old sums in
    let as_numbers : length numbers ≡ length groups = AllZip-long N groups numbers are.each in
    all_added first trials trial few groups old c.loop-place.self.groups.items numbers sums are.each added.long
    (λ k n s t lt. added.below k n s t (omega (arith, lt, past, as_old, as_numbers)))
