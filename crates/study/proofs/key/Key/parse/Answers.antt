use Rattle.{study.specs.KeyWords.{SaysNoKey}, study.proofs.KeyNames.{carried, top_refused, dotted_refused}}
use Rattle.study.proofs.key.Key.parse.Goals as goal

pub returns-in_err-key-in-None-clause-err : goal.returns-in_err-key-in-None-clause-err
returns-in_err-key-in-None-clause-err c =
    carried (SaysNoKey c.args.word.now) c.from_residual.result c.in_err-key-in-None.field-0.0 c.from_residual.ensures.1
    (top_refused c.args.word.now c.in_err-key-in-None.field-0.0 c.in-None.ensures.cases
    c.in_err-key-in-None.ensures.err)

pub returns-in-Some-clause-err : goal.returns-in-Some-clause-err
returns-in-Some-clause-err c =
    dotted_refused c.args.word.now c.in-Some.owner c.in-Some.rest c.dotted_key.result c.in-Some.ensures.cases
    c.dotted_key.ensures.no_scenario c.dotted_key.ensures.no_network
