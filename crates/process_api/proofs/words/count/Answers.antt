use Rattle.process_api.proofs.{Basics.{rules, ◌<◌, ◌^◌, sym, arith, get_or, ones-le}, BitWords.{len-none, len-word}}
use Rattle.process_api.proofs.words.count.Goals as goal

pub loop-k-init : goal.loop-k-init
loop-k-init c = record { counted = sym (len-none c.args.words.now); few = omega arith }

pub loop-k-preserved : goal.loop-k-preserved
loop-k-preserved c =
    let fits : get_or c.args.words.now c.loop-k.k 0 < 2 ^ 64 = search rules in
    let more = len-word c.args.words.now c.loop-k.k fits in
    record { counted = omega (arith, more, c.loop-k.invariant.counted); few = omega (arith, ones-le 64 (get_or c.args.words.now c.loop-k.k 0) fits) }
