use Rattle.network.proofs.{Basics.{ℕ, ◌∙◌, ap, ◌++◌, List, arith, flat_map, range_with_len, option_to_list, length-range_with_len, laid_on}, Adding.{adds_more, all_taken, one_at}}
use Rattle.network.specs.declared.laid.LaidLink.{LaidLink}
use Rattle.network.proofs.laid.push_laid_from.Goals as goal

pub loop-before-preserved : goal.loop-before-preserved
loop-before-preserved c =
    let n = c.args.n in
    let i = c.loop-before.before in
    let q = c.after-to.result in
    let f : ℕ → List LaidLink = λ to. option_to_list (laid_on c.args.tables.now c.args.from to) in
    let added = c.in_ok-push_some.ensures ∙ ap (λ o. c.loop-before.laid.items ++ option_to_list o) c.laid_on.ensures in
    adds_more f c.args.laid.now.items c.loop-before.laid.items _ (range_with_len 1 n) i q
    (omega (arith, length-range_with_len 1 n, c.loop-before-test.true)) (one_at n i q c.loop-before-test.true c.after-to.ensures) c.loop-before.invariant added

pub returns : goal.returns
returns c =
    let f : ℕ → List LaidLink = λ to. option_to_list (laid_on c.args.tables.now c.args.from to) in
    c.loop-before.invariant
    ∙ ap (λ xs. c.args.laid.now.items ++ flat_map f xs) (all_taken 1 c.args.n c.loop-before.before (omega (arith, c.loop-before-test.false)))
