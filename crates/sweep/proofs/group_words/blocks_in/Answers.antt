use Rattle.sweep.proofs.{Words.{rules, ◌≡◌, ◌++◌, ◌∷◌, [], Ok, Err, true, map, get_or, length, sym, ap, ◌∙◌, arith, length-map, is_ok, block_said}, Blocks.{one_more, none_said}, Places.{word_at}, Reading.{if_err}}
use Rattle.sweep.proofs.group_words.blocks_in.Goals as goal

pub returns-in_err-block-clause-err : goal.returns-in_err-block-clause-err
returns-in_err-block-clause-err c =
    let words = map (λ w. w.now) c.args.words.now in
    let i = c.loop-word.word-index in
    let e = c.in_err-block.field-0.0 in
    let len : length words ≡ length c.args.words.now = length-map c.args.words.now (λ w. w.now) in
    let at : block_said (get_or words i []) ≡ Err e = ap block_said (word_at c.args.words.now i c.loop-word-test.true) ∙ sym c.in_err-block.ensures in
    if_err c.from_residual.result _ e (search rules)
    (λ _. none_said words i c.loop-word.blocks.items (omega (arith, len, c.loop-word-test.true)) c.loop-word.invariant e at)

pub loop-word-preserved : goal.loop-word-preserved
loop-word-preserved c =
    let words = map (λ w. w.now) c.args.words.now in
    let i = c.loop-word.word-index in
    let len : length words ≡ length c.args.words.now = length-map c.args.words.now (λ w. w.now) in
    let at : block_said (get_or words i []) ≡ Ok c.in_ok-block.block = ap block_said (word_at c.args.words.now i c.loop-word-test.true) ∙ sym c.in_ok-block.ensures in
    let ok : is_ok c.push.result ≡ true = search rules in
    let pushed : c.push.new.self.items ≡ c.loop-word.blocks.items ++ c.in_ok-block.block ∷ [] = rw ok at c.push.ensures.items in
    one_more words i c.loop-word.blocks.items (omega (arith, len, c.loop-word-test.true)) c.loop-word.invariant c.in_ok-block.block at
    ∙ ap (map Ok) (sym pushed)
