use Rattle.network.proofs.{Basics.{◌∙◌, [], ap, arith, flat_map, range_with_len, length-range_with_len, laid_from, laid_links}, Adding.{adds_more, all_taken, one_at}}
use Rattle.network.proofs.laid.laid_links.Goals as goal

pub loop-before-preserved : goal.loop-before-preserved
loop-before-preserved c =
    let n = c.args.processes in
    let i = c.loop-before.before in
    adds_more (laid_from c.args.tables.now n) [] c.loop-before.laid.items _ (range_with_len 1 n) i c.after.result
    (omega (arith, length-range_with_len 1 n, c.loop-before-test.true)) (one_at n i c.after.result c.loop-before-test.true c.after.ensures) c.loop-before.invariant c.in_ok-push_laid_from.ensures

pub returns : goal.returns
unfolding laid_links
returns c =
    let n = c.args.processes in
    c.loop-before.invariant
    ∙ ap (flat_map (laid_from c.args.tables.now n)) (all_taken 1 n c.loop-before.before (omega (arith, c.loop-before-test.false)))
