use Rattle.study.proofs.{Basics.{◌≡◌, [], ◌∷◌, ◌++◌, ◌∙◌, sym, map, rules, IsFault}, KeyNames.{carried}, Pieces.{part_fails, part_more}}
use Rattle.study.specs.AxisWords.{piece_said, parts_fault}
use Rattle.study.proofs.axis_words.read_parts.Goals as goal

pub returns-in_err-part-clause-err : goal.returns-in_err-part-clause-err
returns-in_err-part-clause-err c =
    carried (IsFault (parts_fault (map piece_said (map (λ x. x.now) c.args.words.now)))) c.from_residual.result
    c.in_err-part.field-0.0 c.from_residual.ensures.1
    (λ other. sym c.loop-word.invariant.fault ∙ part_fails c.args.words.now c.loop-word.word-index _ c.loop-word-test.true
    c.in_err-part.field-0.0 (c.in_err-part.ensures.err other))

pub loop-word-preserved : goal.loop-word-preserved
loop-word-preserved c =
    let pushed : c.push.new.self.items ≡ c.loop-word.settings.items ++ (c.in_ok-part.part ∷ []) = search rules in
    let part = c.in_ok-part.ensures.ok in
    let more = part_more c.args.words.now c.loop-word.word-index _ c.loop-word-test.true _ _ _ part.0 part.1 pushed in
    record { fault = more.0 ∙ c.loop-word.invariant.fault; same = more.1 ∙ c.loop-word.invariant.same }
