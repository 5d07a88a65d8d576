use Rattle.network.proofs.{Basics.{◌∙◌, [], ap, arith, flat_map, range_with_len, length-range_with_len, links_from}, Adding.{adds_more, all_taken, one_at}}
use Rattle.network.proofs.group.links_between.Goals as goal

pub loop-before-preserved : goal.loop-before-preserved
loop-before-preserved c =
    let n = c.args.n in
    let i = c.loop-before.before in
    adds_more (links_from c.args.senders.now c.args.receivers.now c.args.both n) [] c.loop-before.links.items _ (range_with_len 1 n) i c.after.result
    (omega (arith, length-range_with_len 1 n)) (one_at n i c.after.result c.loop-before-test.true c.after.ensures) c.loop-before.invariant c.in_ok-push_links_from.ensures

pub returns : goal.returns
returns c =
    let n = c.args.n in
    c.loop-before.invariant
    ∙ ap (flat_map (links_from c.args.senders.now c.args.receivers.now c.args.both n)) (all_taken 1 n c.loop-before.before (omega arith))
