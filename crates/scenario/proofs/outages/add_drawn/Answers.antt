use Rattle.scenario.proofs.{Words.{◌∙◌, ◌++◌, ◌∷◌, [], ap, sym, map, take, append_assoc, each_pairs_outages, outage_table, is_bad_outage}, Firsts.{applies}, DrawnTables.{drawn_more, bad_among, good_more}}
use Rattle.scenario.proofs.outages.add_drawn.Goals as goal

pub loop-outage-preserved : goal.loop-outage-preserved
loop-outage-preserved c =
    let n = c.args.n in
    let i = c.loop-outage.outage-index in
    let o = c.outage-item.result in
    let done = map outage_table (take i c.args.drawn.now) in
    let more = drawn_more c.args.drawn.now i o c.loop-outage-test.true c.outage-item.is in
    record {
      clean = good_more c.args.drawn.now i o c.loop-outage-test.true c.outage-item.is (is_bad_outage n) c.loop-outage.invariant.clean (sym c.in-Some.ensures.test);
      all = c.in_ok-add.ensures.all;
      lists = λ tables are.
          c.in_ok-add.ensures.lists (outage_table o) c.in-Some.ensures.says (tables ++ done) (c.loop-outage.invariant.lists tables are)
          ∙ ap (λ ts. each_pairs_outages ts n) (append_assoc tables done (outage_table o ∷ []) ∙ ap (λ ts. tables ++ ts) (sym more));
    }

pub returns-in_default-clause-judged : goal.returns-in_default-clause-judged
returns-in_default-clause-judged c = λ other.
    applies _ _ (bad_among c.args.drawn.now c.loop-outage.outage-index c.outage-item.result c.loop-outage-test.true c.outage-item.is (is_bad_outage c.args.n) (sym c.in_default.ensures.test))
