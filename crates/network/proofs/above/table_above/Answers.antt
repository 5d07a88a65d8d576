use Rattle.network.proofs.{Basics.{◌≡◌, refl, subst, take, arith, add-one, All, take_all, All-map, AreAllWithin}, ArrayTables.{numbered_image}, Naming.{all_before, all_next}}
use Rattle.network.proofs.above.table_above.Goals as goal

pub returns-in-Some-clause-some : goal.returns-in-Some-clause-some
returns-in-Some-clause-some g c = record {
  groups = g.T.NamesGroups.groups c.index-tables-i.result;
  there = rw add-one (numbered_image g.T.NamesGroups.groups c.args.tables.now c.loop-i.i c.index-tables-i.result c.loop-i-test.true c.index-tables-i.is);
  within = all_before c.args.n g.T.NamesGroups.groups c.args.tables.now c.loop-i.i c.loop-i.invariant;
  is = c.in-Some.ensures.some;
}

pub loop-i-preserved : goal.loop-i-preserved
loop-i-preserved g c =
    all_next c.args.n g.T.NamesGroups.groups c.args.tables.now c.loop-i.i c.index-tables-i.result c.loop-i-test.true
    c.index-tables-i.is c.loop-i.invariant (c.in_default.ensures.none refl)

pub returns-clause-none : goal.returns-clause-none
returns-clause-none g c = λ none.
    let all : take c.loop-i.i c.args.tables.now ≡ c.args.tables.now = take_all c.loop-i.i c.args.tables.now (omega arith) in
    All-map (AreAllWithin c.args.n) g.T.NamesGroups.groups c.args.tables.now
    (subst (All (λ t. AreAllWithin c.args.n (g.T.NamesGroups.groups t))) all c.loop-i.invariant)
