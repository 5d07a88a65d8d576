use Rattle.study.proofs.{Basics.{◌≡◌, [], ◌∷◌, ◌++◌, ap, false, map, length, length-append, arith, rules, path_of}, KeyNames.{carried, key_more, key_fails}}
use Rattle.study.specs.KeyWords.{SayNoKeys, is_memory}
use Rattle.study.proofs.axis_words.read_key_words.Goals as goal

pub returns-in_err-key-clause-err : goal.returns-in_err-key-clause-err
returns-in_err-key-clause-err c =
    carried (λ e. is_memory e ≡ false → SayNoKeys (map (λ x. x.now) c.args.words.now) e) c.from_residual.result
    c.in_err-key.field-0.0 c.from_residual.ensures.1
    (λ other. key_fails c.args.words.now c.loop-word.word-index _ (map path_of c.loop-word.keys.items)
    c.in_err-key.field-0.0 c.loop-word-test.true c.loop-word.invariant.said c.in_err-key.ensures.err)

pub loop-word-preserved : goal.loop-word-preserved
loop-word-preserved c =
    let pushed : c.push.new.self.items ≡ c.loop-word.keys.items ++ (c.in_ok-key.key ∷ []) = search rules in
    record {
      said = key_more c.args.words.now c.loop-word.word-index _ c.loop-word.keys.items c.push.new.self.items c.in_ok-key.key
          c.loop-word-test.true c.loop-word.invariant.said c.in_ok-key.ensures.ok pushed;
      some = omega (arith, ap length pushed, length-append c.loop-word.keys.items (c.in_ok-key.key ∷ []));
    }
